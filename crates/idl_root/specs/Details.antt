-- What is told of the names of a root as data: each that has an id, and is declared, has its row as a
-- tree, and where it is declared; and each used name what it denotes.
use Rattle.std.specs.Prelude.{ℕ, List, [], ◌∷◌, flat_map, map, None, Some}
use Rattle.idl_repo.specs.details.Print.{row_of}
use Rattle.idl_repo.specs.details.Tree.{tree_over}
use Rattle.idl_entity.specs.declared.entity.Entity.{Entity}
use Rattle.idl_env.specs.Facts.{UnitFacts, answers, entity_in, entity_key}
use Rattle.idl_event.specs.declared.told.event.Event.{Event}
use Rattle.idl_root.specs.Compile.{Outcome, outcome_of}
use Rattle.idl_root.specs.Named.{NamedUnit, named_after}
use Rattle.idl_root.specs.NamePlaces.{declared_names, places_at, used_names}
use Rattle.idl_root.specs.Printed.{Listed}
use Rattle.idl_root.specs.declared.compiling.detailing.DetailedEntry.{DetailedEntry}
use Rattle.idl_root.specs.declared.compiling.detailing.Details.{Details}
use Rattle.idl_root.specs.declared.compiling.places.PlacedName.{PlacedName}
use Rattle.idl_unit.specs.Units.{units_of}

-- what is told over facts of what is declared so, where these are the declared names of the root
abbrev pub entry_of : List UnitFacts → List PlacedName → List (List ℕ) → Entity → DetailedEntry
entry_of facts names path e =
    record { tree = tree_over (answers facts) e; places = places_at path names }

-- that of the name at a path, if it is declared
abbrev pub entries_at : List UnitFacts → List PlacedName → List (List ℕ) → List DetailedEntry
entries_at facts names path =
    elim (entity_in (answers facts (entity_key path))) [
      | None ↦ []
      | Some e ↦ entry_of facts names path e ∷ []
    ]

abbrev pub listed_entries : List UnitFacts → List PlacedName → Listed → List DetailedEntry
listed_entries facts names l = entries_at facts names l.path

-- that of all names of a root, in the order in which they are declared first, over what all units
-- add, where each name of its units is declared, and what each used one denotes
abbrev pub details_after : List Event → List NamedUnit → Outcome → Details
details_after events units o = record {
  entries = flat_map (listed_entries o.facts (declared_names events units)) o.listed;
  declared = declared_names events units;
  uses = used_names events units;
}

unfoldable pub details : List Event → Details
details events =
    details_after events (named_after [] (units_of events)) (outcome_of events)

-- the rows that they are printed as
abbrev pub entry_text : DetailedEntry → List ℕ
entry_text entry = row_of entry.tree

abbrev pub printed : Details → List (List ℕ)
printed d = map entry_text d.entries
