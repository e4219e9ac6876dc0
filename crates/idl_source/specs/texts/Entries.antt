-- The entries that files are kept in, in the order of their names.
use Rattle.std.specs.Prelude.{◌≡◌, ℕ, ◌<◌, ◌≤◌, List, map, length}
use Rattle.std.specs.Global.{Global}
use Rattle.std.specs.List.{HoldsAt, AllWithin}
use Rattle.std.specs.Ordering.{nat_cmp}
use Rattle.std.specs.Cmp.Lexicographic.{slice_cmp}
use Rattle.std.specs.declared.cmp.Ordering.TheVariants.{Less, Greater}
use Rattle.std.specs.declared.rc.Rc.{Rc}
use Rattle.idl_source.specs.declared.texts.entries.NamedFile.{NamedFile}

abbrev pub entry_of : Rc NamedFile Global → List ℕ × List (List ℕ)
entry_of entry = (entry.value.name, entry.value.file)

-- each name with its lines
abbrev pub entries_of : List (Rc NamedFile Global) → List (List ℕ × List (List ℕ))
entries_of entries = map entry_of entries

-- the entry at place i has the name
pub record IsAt (entries : List (Rc NamedFile Global)) (name : List ℕ) (i : ℕ) : Type 0 where
  pub in_range : i < length entries
  pub has_name : HoldsAt (λ entry. entry.value.name ≡ name) entries i

-- an entry with the name would stand at place i: lower names before it, and higher ones from it on
pub record IsGapFor (entries : List (Rc NamedFile Global)) (name : List ℕ) (i : ℕ) : Type 0 where
  pub in_range : i ≤ length entries
  pub lower_before : AllWithin (λ entry. slice_cmp nat_cmp entry.value.name name ≡ Less) entries 0 i
  pub higher_after : AllWithin
      (λ entry. slice_cmp nat_cmp entry.value.name name ≡ Greater) entries i (length entries)
