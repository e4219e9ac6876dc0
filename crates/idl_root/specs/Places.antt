-- Where the tasks of a root stand: each with its text, over the answers there. Of units these are
-- the declarations and the pragmas, over what the units and file boundaries before them added; of
-- included files the blocks, over what was added before their entering; of the names that have an
-- id, the entries, over all that was added.
use Rattle.std.specs.Prelude.{ℕ, List, [], Option, map}
use Rattle.idl_env.specs.Facts.{UnitFacts, answers}
use Rattle.idl_env.specs.declared.answering.answer.Answer.{Answer}
use Rattle.idl_env.specs.declared.keys.key.Key.{Key}
use Rattle.idl_event.specs.declared.told.event.Event.{Event}
use Rattle.idl_memo.specs.Fresh.{Place}
use Rattle.idl_root.specs.Compile.{outcome_of}
use Rattle.idl_root_blocks.specs.idl_check.walk.Verdict.{added}
use Rattle.idl_root.specs.Printed.{Listed}
use Rattle.idl_kept.specs.Texts.{begins_in}
use Rattle.idl_root_blocks.specs.Blocks.{Pieces, cut}
use Rattle.idl_root_blocks.specs.Places.{BlockPlace, DeclarationPlace, blocks_over, declarations_over}
use Rattle.idl_root_blocks.specs.Units.{text_of}
use Rattle.idl_root_blocks.specs.declared.text.BlockPart.{BlockPart}
use Rattle.idl_unit.specs.Units.{units_of}

-- an entry where it stands: the text of its task is the path of the name
abbrev pub EntryPlace : Type 0
EntryPlace = Place Key (Option Answer) (List (List ℕ))

-- the text of a root that expands to these events, its declarations, and how the text falls into
-- blocks
abbrev pub root_text : List Event → List BlockPart
root_text events = text_of (units_of events)

unfoldable pub declarations_of : List Event → List DeclarationPlace
declarations_of events = declarations_over [] (root_text events)

abbrev pub root_pieces : List Event → Pieces
root_pieces events = cut (root_text events)

-- its blocks, in the order in which they are left, and how many of its units with tokens stand before
-- the first of each
unfoldable pub blocks_of : List Event → List BlockPlace
blocks_of events = blocks_over [] (root_pieces events)

unfoldable pub begins_of : List Event → List ℕ
begins_of events = begins_in 0 (root_pieces events)

-- the entries of names over facts
abbrev pub entries_over : List UnitFacts → List Listed → List EntryPlace
entries_over facts listed = map (λ l. (l.path, answers facts)) listed

-- those of a root that expands to these events
unfoldable pub entries_of : List Event → List EntryPlace
entries_of events = let o = outcome_of events in entries_over o.facts o.listed
