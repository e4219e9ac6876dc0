-- Where the tasks of a root's units stand: each with its text, over the answers there. These are its
-- declarations and pragmas, over what the units and file boundaries before them added, and its blocks.
use Rattle.std.specs.Prelude.{◌≡◌, List, [], ◌∷◌, ◌++◌, Option}
use Rattle.idl_block.specs.Blocks.{Ways, block, walk}
use Rattle.idl_check_laws.specs.idl_check.declared.walk.verdict.Verdict.{Verdict}
use Rattle.idl_root_blocks.specs.verdicts.Standing.{AreStanding, block_end, unit_asks, unit_writes}
use Rattle.idl_env.specs.Facts.{UnitFacts, answers, boundary}
use Rattle.idl_env.specs.declared.additions.addition.Step.{Step}
use Rattle.idl_env.specs.declared.additions.addition.Step.TheVariants.{Enters as EntersFile, Leaves as LeavesFile}
use Rattle.idl_env.specs.declared.answering.answer.Answer.{Answer}
use Rattle.idl_env.specs.declared.keys.key.Key.{Key}
use Rattle.idl_env.specs.keys.Key.{key_eq}
use Rattle.idl_block.specs.facts.Answered.{mapped}
use Rattle.idl_block.specs.facts.Written.{ways_of}
use Rattle.idl_memo.specs.Fresh.{Place}
use Rattle.idl_memo.specs.Kept.{Kept, result_over}
use Rattle.idl_memo.specs.Query.{Query}
use Rattle.idl_root_blocks.specs.Blocks.{Block, Loose, Nothing, Pieces, parts_of, text_in}
use Rattle.idl_root_blocks.specs.declared.text.BlockPart.{BlockPart}
use Rattle.idl_root_blocks.specs.declared.text.BlockPart.TheVariants.{Text, Enters, Leaves}
use Rattle.idl_unit.specs.declared.unit.UnitText.{UnitText}

-- units and file boundaries, as parts of blocks
abbrev pub unit_ways : Ways Key (Option Answer) (Unit {0}) UnitText Step UnitFacts Verdict
unit_ways = ways_of unit_asks unit_writes

-- these facts, and what a text behind them adds
abbrev pub facts_over : List UnitFacts → List BlockPart → List UnitFacts
facts_over facts text = (walk unit_ways answers (parts_of text) facts).1

-- ---- declarations

-- a declaration, or a pragma, where it stands
abbrev pub DeclarationPlace : Type 0
DeclarationPlace = Place Key (Option Answer) UnitText

-- that of a part behind facts: file boundaries are no tasks
abbrev pub declaration_at : List UnitFacts → BlockPart → List DeclarationPlace
declaration_at facts (Text text) = (text, answers facts) ∷ []
declaration_at facts (Enters inside) = []
declaration_at facts (Leaves inside) = []

-- those of a text behind facts
unfoldable pub declarations_over : List UnitFacts → List BlockPart → List DeclarationPlace
declarations_over facts [] = []
declarations_over facts (part ∷ text) =
    declaration_at facts part ++ declarations_over (facts_over facts (part ∷ [])) text

-- what is kept of one: its text, what it asked with the answers, and its verdict
abbrev pub declaration_result : DeclarationPlace → Kept Key (Option Answer) UnitText Verdict
declaration_result place = result_over key_eq unit_asks place

-- ---- blocks

-- what comes of a block: the verdicts of its units, and what it adds from its entering on
abbrev pub BlockEnd : Type 0
BlockEnd = List Verdict × List UnitFacts

-- what a block asks and comes to: its units' tasks one after another, each behind what the block added
-- before it, first of all its own entering
abbrev pub block_query : List BlockPart → Query Key (Option Answer) (Unit {0}) BlockEnd
block_query text = block unit_ways (parts_of text) (boundary EntersFile ∷ [])

-- what it asks: nothing is kept of it but that
abbrev pub block_asks : List BlockPart → Query Key (Option Answer) (Unit {0}) (Unit {0})
block_asks text = mapped (λ end. tt) (block_query text)

-- a block where it stands: over the answers before it is entered
abbrev pub BlockPlace : Type 0
BlockPlace = Place Key (Option Answer) (List BlockPart)

-- the block of these pieces behind facts
abbrev pub block_at : List UnitFacts → Pieces → BlockPlace
block_at facts inside = (text_in inside, answers facts)

-- what is kept of one: its text, and what it asked with the answers
abbrev pub block_result : BlockPlace → Kept Key (Option Answer) (List BlockPart) (Unit {0})
block_result place = result_over key_eq block_asks place

-- the facts before its first unit, and those behind its leaving
abbrev pub with_entering : List UnitFacts → List UnitFacts
with_entering facts = facts ++ boundary EntersFile ∷ []

abbrev pub facts_behind : List UnitFacts → Pieces → List UnitFacts
facts_behind facts inside =
    facts_over (with_entering facts) (text_in inside) ++ boundary LeavesFile ∷ []

-- where it stands behind these facts its units come to this end
abbrev pub ComesTo : List UnitFacts → List BlockPart → BlockEnd → Type 0
ComesTo facts text end =
    walk unit_ways answers (parts_of text) (with_entering facts) ≡ (end.0, facts ++ end.1)

-- what it adds behind these facts stands there
abbrev pub Stands : List UnitFacts → List BlockPart → Type 0
Stands facts text = AreStanding facts (block_end (answers facts) (parts_of text)).1

-- the blocks among pieces, behind facts, in the order in which they are left
unfoldable pub blocks_over : List UnitFacts → Pieces → List BlockPlace
blocks_over facts Nothing = []
blocks_over facts (Loose part pieces) = blocks_over (facts_over facts (part ∷ [])) pieces
blocks_over facts (Block inside pieces) =
    blocks_over (with_entering facts) inside
    ++ block_at facts inside ∷ blocks_over (facts_behind facts inside) pieces

-- each block among pieces stands, behind facts
abbrev pub AreStandingOver : List UnitFacts → Pieces → Type 0
AreStandingOver facts Nothing = Unit {0}
AreStandingOver facts (Loose part pieces) =
    AreStandingOver (facts_over facts (part ∷ [])) pieces
AreStandingOver facts (Block inside pieces) =
    Stands facts (text_in inside)
    × (AreStandingOver (with_entering facts) inside
    × AreStandingOver (facts_behind facts inside) pieces)
