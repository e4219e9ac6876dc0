-- Which tasks are met at an edit, and at how many keys kept ones are compared there: every root; of a
-- root whose own task isn't kept its names, the units and blocks that stand in no block, and those
-- directly inside a block that is met and to which no kept one is alike.
use Rattle.std.specs.Prelude.{ℕ, List, [], ◌∷◌, ◌++◌, Option, map, sum_by, if◌then◌else◌}
use Rattle.std.specs.List.{list_any}
use Rattle.std.specs.Option.{option_eq}
use Rattle.std.specs.Str.{bytes_eq}
use Rattle.idl_event.specs.Key.{key_eq}
use Rattle.idl_event.specs.declared.asked.key.RootAnswer.{RootAnswer}
use Rattle.idl_event.specs.declared.asked.key.RootKey.{RootKey}
use Rattle.idl_memo.specs.Fresh.{most_shared_at, places_over, shared_at}
use Rattle.idl_prep.specs.Root.{expanded, expansion}
use Rattle.idl_sources.specs.idl_root.Compared.{most_shared_entry, shared_entry}
use Rattle.idl_sources.specs.idl_root.Places.{EntryPlace, root_pieces}
use Rattle.idl_sources.specs.idl_root.idl_root_blocks.Met.{Known, Met, met_over, most_shared_by, shared_by}
use Rattle.idl_project.specs.Tasks.{RootPlace, alike_root, answer_eq, blocks_among, declarations_among, entries_among, entries_at}

-- ---- known tasks

-- tasks that are known: those of an earlier project, and those of earlier places of this one
pub record KnownTasks : Type 0 where
  pub roots : List RootPlace
  pub texts : Known
  pub entries : List EntryPlace

-- those of these roots over these answers
abbrev pub tasks_of : (RootKey → Option RootAnswer) → List (List ℕ) → KnownTasks
tasks_of bank roots = record {
  roots = places_over bank roots;
  texts = record {
    declarations = declarations_among bank roots;
    blocks = blocks_among bank roots;
  };
  entries = entries_among bank roots;
}

-- with more of them
abbrev pub with_tasks : KnownTasks → KnownTasks → KnownTasks
with_tasks known more = record {
  roots = known.roots ++ more.roots;
  texts = record {
    declarations = known.texts.declarations ++ more.texts.declarations;
    blocks = known.texts.blocks ++ more.texts.blocks;
  };
  entries = known.entries ++ more.entries;
}

-- ---- places that are met

-- a place that is met, beside the tasks of its kind that are known there: a root's; a unit's or a
-- block's; a name's
pub data PlaceMet : Type 0 where
  MetRoot : List RootPlace → RootPlace → PlaceMet
  MetText : Met → PlaceMet
  MetEntry : List EntryPlace → EntryPlace → PlaceMet

-- names, one after another
abbrev pub met_entries : List EntryPlace → List EntryPlace → List PlaceMet
met_entries known [] = []
met_entries known (here ∷ more) = MetEntry known here ∷ met_entries (known ++ here ∷ []) more

-- what is met in a root whose own task isn't known
abbrev pub met_inside : KnownTasks → (RootKey → Option RootAnswer) → List ℕ → List PlaceMet
met_inside known bank root =
    map MetText (met_over known.texts [] (root_pieces (expanded root bank).0))
    ++ met_entries known.entries (entries_at bank root)

-- what is met of a root
abbrev pub met_at : KnownTasks → (RootKey → Option RootAnswer) → List ℕ → List PlaceMet
met_at known bank root =
    MetRoot known.roots (root, bank)
    ∷ (if list_any (alike_root (root, bank)) known.roots then [] else met_inside known bank root)

-- and of roots, one after another
abbrev pub met_among : KnownTasks → (RootKey → Option RootAnswer) → List (List ℕ) → List PlaceMet
met_among known bank [] = []
met_among known bank (root ∷ roots) =
    met_at known bank root ++ met_among (with_tasks known (tasks_of bank (root ∷ []))) bank roots

-- what is met at an edit, by the answers and the roots before it and those after it
abbrev pub met_between : (RootKey → Option RootAnswer) → List (List ℕ)
    → (RootKey → Option RootAnswer) → List (List ℕ) → List PlaceMet
met_between old before new roots = met_among (tasks_of old before) new roots

-- ---- keys

-- how many keys a known task asked that is alike at a place that is met: nothing where none is
abbrev pub shared_keys : PlaceMet → ℕ
shared_keys (MetRoot known here) =
    shared_at bytes_eq (option_eq answer_eq) expansion key_eq known here
shared_keys (MetText met) = shared_by met
shared_keys (MetEntry known here) = shared_entry known here

-- and how many all known ones of its text asked, each task once
abbrev pub most_shared_keys : PlaceMet → ℕ
most_shared_keys (MetRoot known here) =
    most_shared_at bytes_eq (option_eq answer_eq) expansion key_eq known here
most_shared_keys (MetText met) = most_shared_by met
most_shared_keys (MetEntry known here) = most_shared_entry known here

-- at how many keys known tasks are compared at places that are met, and no more than which
abbrev pub compared_in : List PlaceMet → ℕ
compared_in met = sum_by shared_keys met

abbrev pub most_compared_in : List PlaceMet → ℕ
most_compared_in met = sum_by most_shared_keys met
