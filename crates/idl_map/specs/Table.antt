-- A table: entries in the order in which their keys were first put in, and, where they are many, an
-- index of their places by key.
use Rattle.std.specs.Prelude.{◌≡◌, ℕ, Bool, List, [], ◌∷◌, Option, None, Some, IfSome, slice_get, if◌then◌else◌}
use Rattle.std.specs.Global.{Box}
use Rattle.std.specs.Map.{lookup}
use Rattle.std.specs.Option.{option_map}

-- the entries after a put: a key that is there keeps its place and takes the value, and a new key
-- goes last
abbrev pub insert_entry : {K V : Type 0} → (K → K → Bool) → List (K × V) → K → V → List (K × V)
insert_entry eq [] k v = (k, v) ∷ []
insert_entry eq (e ∷ es) k v = if eq k e.0 then (e.0, v) ∷ es else e ∷ insert_entry eq es k v

-- the places that a map has for keys, by a test of equality
abbrev pub places_in : {K : Type 0} → (K → K → Bool) → List (K × ℕ) → K → Option ℕ
places_in eq places key = lookup (eq key) places

-- the same of a map behind a pointer, where there is one
abbrev pub places_behind : {K : Type 0} → (K → K → Bool) → Option (Box (List (K × ℕ)))
    → Option (K → Option ℕ)
places_behind eq index = option_map (λ places. places_in eq places.value) index

-- the index has the place of each key; of one that stands nowhere it may have any
abbrev pub IsIndexOf : {K : Type 0} → (K → Option ℕ) → List K → Type 0
IsIndexOf {K} places keys = (k : K) (i : ℕ) → slice_get keys i ≡ Some k → places k ≡ Some i

-- no key stands at two places
abbrev pub AreDistinct : {K : Type 0} → List K → Type 0
AreDistinct keys = (k : _) (i j : ℕ) → slice_get keys i ≡ Some k → slice_get keys j ≡ Some k → i ≡ j

-- the keys of a table differ, and its index, where it has one, is of them
pub record IsIndexed {K : Type 0} (index : Option (K → Option ℕ)) (keys : List K) : Type 0 where
  pub distinct : AreDistinct keys
  pub places : IfSome index (λ places. IsIndexOf places keys)

-- the entries of a table that is there only where it has some
abbrev pub entries_in : {X : Type 0} → Option (Box (List X)) → List X
entries_in None = []
entries_in (Some table) = table.value
