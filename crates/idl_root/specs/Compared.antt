-- At how many keys known tasks are compared where those of a root are met: its names, and of its units
-- and blocks those that stand in no block, and those directly inside a block that is met and to which
-- no known one is alike.
use Rattle.std.specs.Prelude.{◌≡◌, ℕ, ◌+◌, All, Contains, List, [], map, sum_by}
use Rattle.std.specs.Option.{option_eq}
use Rattle.idl_entity.specs.Path.{path_eq}
use Rattle.idl_env.specs.SameAnswer.{answer_eq}
use Rattle.idl_env.specs.keys.Key.{key_eq}
use Rattle.idl_event.specs.declared.told.event.Event.{Event}
use Rattle.idl_kept.specs.Texts.{Texts}
use Rattle.idl_memo.specs.Fresh.{keys_at, most_shared_at, shared_among, shared_at}
use Rattle.idl_repo.specs.Entry.{entry}
use Rattle.idl_root.specs.Places.{EntryPlace, entries_of, root_pieces}
use Rattle.idl_root_blocks.specs.Met.{Known, compared, met_over, outermost_keys}
use Rattle.idl_root_blocks.specs.Places.{block_result, declaration_result}
use Rattle.idl_store.specs.Stored.{results_in}

-- what is kept of units and blocks is that of known ones
pub record AreOf (known : Known) (texts : Texts) : Type 0 where
  pub declarations : results_in texts.declarations ≡ map declaration_result known.declarations
  pub blocks : results_in texts.blocks ≡ map block_result known.blocks

-- how many keys the entry of a name asks where it stands, and at how many keys known ones are compared
-- at these places
abbrev pub entry_keys : EntryPlace → ℕ
entry_keys place = keys_at path_eq (option_eq answer_eq) entry key_eq place

abbrev pub shared_entries : List EntryPlace → List EntryPlace → ℕ
shared_entries known places = shared_among path_eq (option_eq answer_eq) entry key_eq known places

-- how many keys a known one asked that is alike at a place, nothing where none is; and how many all
-- known ones of its path asked, each task once
abbrev pub shared_entry : List EntryPlace → EntryPlace → ℕ
shared_entry known here = shared_at path_eq (option_eq answer_eq) entry key_eq known here

abbrev pub most_shared_entry : List EntryPlace → EntryPlace → ℕ
most_shared_entry known here = most_shared_at path_eq (option_eq answer_eq) entry key_eq known here

-- the same places, in whatever order and however often
abbrev pub AreSamePlaces : {P : Type 0} → List P → List P → Type 0
AreSamePlaces these those = All (Contains those) these × All (Contains these) those

-- at how many keys known tasks are compared in a root that expands to these events
unfoldable pub compared_root : Known → List EntryPlace → List Event → ℕ
compared_root known entries events =
    compared (met_over known [] (root_pieces events)) + shared_entries entries (entries_of events)

-- how many keys the tasks of such a root ask: its names, and its units and blocks that stand in no
-- block
unfoldable pub root_keys : List Event → ℕ
root_keys events =
    outermost_keys [] (root_pieces events) + sum_by entry_keys (entries_of events)
