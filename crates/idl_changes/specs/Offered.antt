-- What an interface inherits, and what can be called on it.
use Rattle.std.specs.Prelude.{ℕ, zero, suc, Bool, List, [], ◌∷◌, ◌&&◌, ◌||◌, Option, Some, filter_map, find, flat_map, is_some, length, nat_eq, if◌then◌else◌}
use Rattle.std.specs.List.{list_any}
use Rattle.std.specs.Option.{option_eq}
use Rattle.std.specs.Str.{bytes_eq}
use Rattle.idl_changes.specs.Listing.{bases_at, interface_at, interface_of, is_called, name_at, places_where}
use Rattle.idl_repo.specs.declared.details.row_tree.RowTree.{RowTree}

-- the places of an interface's own bases
abbrev pub base_places : List RowTree → ℕ → List ℕ
base_places L n = filter_map (λ r. interface_at L r.path) (bases_at L n)

-- whether bases lead from one place to another by way of places before a bound alone: straight, or
-- to the last of these places and on from it
abbrev pub is_reached : List RowTree → (bound i n : ℕ) → Bool
is_reached L zero i n = list_any (nat_eq n) (base_places L i)
is_reached L (suc last) i n =
    is_reached L last i n || (is_reached L last i last && is_reached L last last n)

-- the places before a bound that pass a test, the last first
abbrev pub last_first : (ℕ → Bool) → ℕ → List ℕ
last_first test zero = []
last_first test (suc n) = if test n then n ∷ last_first test n else last_first test n

-- what an interface inherits, wherever in the listing that stands, and it with that
unfoldable pub ancestors : List RowTree → ℕ → List ℕ
ancestors L i = last_first (is_reached L (length L) i) (length L)

abbrev pub inherits : List RowTree → ℕ → List ℕ
inherits L i = i ∷ ancestors L i

-- the operations and attributes in the scope of an interface
unfoldable pub called_in : List RowTree → ℕ → List ℕ
called_in L i =
    places_where (λ e. is_called e && option_eq nat_eq (interface_of L e) (Some i)) L

-- what can be called on an interface: its own operations and attributes, and those that it inherits
unfoldable pub offers : List RowTree → ℕ → List ℕ
offers L i = flat_map (called_in L) (inherits L i)

-- what it offers under a name: of two, of which IDL knows nothing, the first
unfoldable pub offered : List RowTree → ℕ → List ℕ → Option ℕ
offered L i name = find (λ n. bytes_eq name (name_at L n)) (offers L i)

abbrev pub is_offered : List RowTree → ℕ → List ℕ → Bool
is_offered L i name = is_some (offered L i name)
