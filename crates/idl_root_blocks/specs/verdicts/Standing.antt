-- What a block is, by the texts of its parts, and where it stands.
use Rattle.std.specs.Prelude.{Option, ◌≤◌, ◌<◌, ◌^◌, List, [], ◌∷◌, ◌++◌, None, Some}
use Rattle.idl_block.specs.Blocks.{Part, Text, Boundary, block}
use Rattle.idl_check_laws.specs.Closing.{AreTold}
use Rattle.idl_env.specs.declared.answering.answer.Answer.{Answer}
use Rattle.idl_env.specs.declared.keys.key.Key.{Key}
use Rattle.idl_block.specs.facts.Written.{ways_of}
use Rattle.idl_memo.specs.Query.{outcome}
use Rattle.idl_check_laws.specs.idl_check.declared.walk.verdict.Verdict.{Verdict}
use Rattle.idl_check_laws.specs.idl_check.walk.Placing.{faulty_step}
use Rattle.idl_check_laws.specs.idl_check.walk.Verdict.{verdict}
use Rattle.idl_env.specs.Facts.{UnitFacts, answers, boundary, count_in}
use Rattle.idl_env.specs.Turns.{most_turns, turns_for}
use Rattle.idl_env.specs.declared.additions.addition.Step.{Step}
use Rattle.idl_env.specs.declared.additions.addition.Step.TheVariants.{Enters, Leaves, Stays}
use Rattle.idl_env.specs.declared.keys.key.Key.TheVariants.{Nameless}
use Rattle.idl_block.specs.facts.Answered.{Asking}
use Rattle.idl_block.specs.facts.Beneath.{Depth, deepened}
use Rattle.idl_unit.specs.declared.unit.UnitText.{UnitText}
use Rattle.idl_unit.specs.declared.unit.UnitText.TheVariants.{Pragma, Tokens}

-- what a unit asks and comes to, and what it adds then
abbrev pub unit_asks : UnitText → Asking Verdict
unit_asks text = verdict most_turns text

abbrev pub unit_writes : Verdict → UnitFacts
unit_writes v = v.writes

-- what a part does to the open scopes and the files, which its text alone tells but for names
abbrev pub part_step : Part UnitText Step → Step
part_step (Boundary step) = step
part_step (Text (Tokens tokens)) = faulty_step tokens
part_step (Text (Pragma tokens inside)) = Stays

-- a boundary between units is one of files
abbrev pub IsOfFiles : Part UnitText Step → Type 0
IsOfFiles (Boundary Enters) = Unit {0}
IsOfFiles (Boundary Leaves) = Unit {0}
IsOfFiles (Boundary other) = ⊥
IsOfFiles (Text text) = Unit {0}

-- these parts close no scope, and leave no file, that was there where the block's own file was entered;
-- so many have come since
abbrev pub AreInside : Depth → List (Part UnitText Step) → Type 0
AreInside d [] = Unit {0}
AreInside d (part ∷ parts) =
    IsOfFiles part
    × elim (deepened d (part_step part)) [ None ↦ ⊥ | Some next ↦ AreInside next parts ]

-- such parts may stand at the front of a block, behind the boundary at which its file is entered
abbrev pub IsBlockFront : List (Part UnitText Step) → Type 0
IsBlockFront parts = AreInside (record { scopes = 0; files = 0 }) parts

-- what a block comes to over a bank
abbrev pub block_end : (Key → Option Answer) → List (Part UnitText Step)
    → List Verdict × List UnitFacts
block_end bank parts =
    outcome (block (ways_of unit_asks unit_writes) parts (boundary Enters ∷ [])) bank

-- What a block has written stands behind facts: these are told, and all is no more than memory
-- holds.
pub record AreStanding (before facts : List UnitFacts) : Type 0 where
  pub told : AreTold before
  pub turns : turns_for (before ++ facts) ≤ most_turns
  pub count : count_in (answers (before ++ facts) Nameless) < 2 ^ 64
