-- Which entries of two listings belong together, and which types are the same by that.
use Rattle.std.specs.Prelude.{ℕ, Bool, ◌&&◌, ◌||◌, List, Option, None, Some, false, is_none, is_some, nat_eq, slice_get, if◌then◌else◌}
use Rattle.std.specs.Cmp.Lexicographic.{pointwise}
use Rattle.std.specs.Option.{option_and_then, option_eq, option_map_or, option_or}
use Rattle.idl_changes.specs.Listing.{by_id, interface_of, is_called, name_of, place_of}
use Rattle.idl_changes.specs.Offered.{offered}
use Rattle.idl_changes.specs.Plain.{plain}
use Rattle.idl_entity.specs.DataType.{layer_eq}
use Rattle.idl_entity.specs.Kind.{kind_eq}
use Rattle.idl_repo.specs.details.Same.{element_tree_eq, reference_eq}
use Rattle.idl_repo.specs.declared.details.reference.Reference.{Reference}
use Rattle.idl_repo.specs.declared.details.row_tree.RowTree.{RowTree}
use Rattle.idl_repo.specs.declared.details.type_tree.ElementTree.{ElementTree}
use Rattle.idl_repo.specs.declared.details.type_tree.ElementTree.TheVariants as tree
use Rattle.idl_repo.specs.declared.details.type_tree.LayeredType.{LayeredType}

-- whether an entry of these is left without one of the others by that
abbrev pub is_left : (own others : List RowTree) → ℕ → Bool
is_left own others k = option_map_or (λ f. is_none (by_id own others k f)) (slice_get own k) false

abbrev pub is_of_kind : List RowTree → ℕ → RowTree → Bool
is_of_kind L k e = option_map_or (λ f. kind_eq e.kind f.kind) (slice_get L k) false

-- of what is left in both, those of one path and kind belong together
unfoldable pub by_path : (old new : List RowTree) → ℕ → RowTree → Option ℕ
by_path old new i e =
    option_and_then
    (λ k. if (option_eq nat_eq (place_of old e.path) (Some i)
    && is_of_kind new k e) && is_left new old k then Some k else None)
    (place_of new e.path)

-- the one to which an entry belongs that isn't called
unfoldable pub joined : (old new : List RowTree) → ℕ → Option ℕ
joined old new i =
    option_and_then
    (λ e. if is_called e then None else option_or (by_id old new i e) (by_path old new i e))
    (slice_get old i)

-- whether that is at this place
abbrev pub is_partner : (old new : List RowTree) → ℕ → Option ℕ → Bool
is_partner old new i place = is_some place && option_eq nat_eq (joined old new i) place

-- whether an interface offers an entry under its name
abbrev pub is_own_offer : List RowTree → (o i : ℕ) → RowTree → Bool
is_own_offer L o i e = option_eq nat_eq (offered L o (name_of e.path)) (Some i)

-- a called one belongs to what the partner of its interface offers under its name
abbrev pub called_partner : (old new : List RowTree) → ℕ → RowTree → Option ℕ
called_partner old new i e =
    option_and_then
    (λ o. if is_own_offer old o i e
    then option_and_then (λ p. offered new p (name_of e.path)) (joined old new o)
    else None)
    (interface_of old e)

-- the entry of the new listing to which an entry of the old one belongs
unfoldable pub partner : (old new : List RowTree) → ℕ → Option ℕ
partner old new i =
    option_and_then
    (λ e. if is_called e then called_partner old new i e else joined old new i)
    (slice_get old i)

-- references are the same where the entry of the one is the partner of the other's
unfoldable pub is_same_reference : (old new : List RowTree) → Reference → Reference → Bool
is_same_reference old new r s =
    elim (place_of old r.path) [
      | None ↦ is_none (place_of new s.path) && reference_eq r s
      | Some i ↦ is_partner old new i (place_of new s.path)
    ]

abbrev pub is_same_element : (old new : List RowTree) → ElementTree → ElementTree → Bool
is_same_element old new (tree.Named r) (tree.Named s) = is_same_reference old new r s
is_same_element old new e f = element_tree_eq e f

-- types are written the same: the same layers, around the same
unfoldable pub is_written : (old new : List RowTree) → LayeredType → LayeredType → Bool
is_written old new t u =
    is_same_element old new t.element u.element && pointwise layer_eq t.layers u.layers

-- types are sent the same: so they are as they stand, or without aliases
unfoldable pub is_sent : (old new : List RowTree) → LayeredType → LayeredType → Bool
is_sent old new t u =
    is_written old new t u || is_written old new (plain old t) (plain new u)
