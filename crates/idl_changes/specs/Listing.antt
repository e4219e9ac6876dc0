-- Entries of a listing: by their places in it and by their paths, and what each of them is.
use Rattle.std.specs.Prelude.{ℕ, ◌-◌, Bool, true, false, List, [], ◌∷◌, ◌++◌, ◌&&◌, Option, None, Some, filter, fold, length, map, nat_eq, not, position, slice_get, take, if◌then◌else◌}
use Rattle.std.specs.List.{enumerate_from}
use Rattle.std.specs.Option.{option_and_then, option_map_or}
use Rattle.std.specs.Str.{bytes_eq}
use Rattle.idl_entity.specs.Kind.{kind_eq}
use Rattle.idl_entity.specs.declared.kind.Kind.{Kind}
use Rattle.idl_entity.specs.declared.kind.Kind.TheVariants as kind
use Rattle.idl_repo.specs.declared.details.reference.Reference.{Reference}
use Rattle.idl_repo.specs.declared.details.row_tree.RowDetails.{RowDetails}
use Rattle.idl_repo.specs.declared.details.row_tree.RowDetails.TheVariants as row
use Rattle.idl_repo.specs.declared.details.row_tree.RowTree.{RowTree}
use Rattle.idl_repo.specs.declared.details.type_code_tree.TypeCodeParts.{TypeCodeParts}
use Rattle.idl_repo.specs.declared.details.type_code_tree.TypeCodeParts.TheVariants as parts
use Rattle.idl_repo.specs.declared.details.type_tree.LayeredType.{LayeredType}

-- operations and attributes are called
abbrev pub is_called_kind : Kind → Bool
is_called_kind kind.Operation = true
is_called_kind kind.Attribute = true
is_called_kind other = false

abbrev pub is_called : RowTree → Bool
is_called e = is_called_kind e.kind

-- the place of the entry to which a path leads: of several that have it, the first. None leads to
-- what is called
unfoldable pub place_of : List RowTree → List ℕ → Option ℕ
place_of L path = position (λ e. not (is_called e) && bytes_eq path e.path) L

-- the places of the entries that pass a test
abbrev pub places_where : (RowTree → Bool) → List RowTree → List ℕ
places_where test L = map (λ p. p.0) (filter (λ p. test p.1) (enumerate_from 0 L))

-- the name of an entry is what stands behind the last colon of its path, and its scope what stands
-- before the two colons
unfoldable pub name_of : List ℕ → List ℕ
name_of path = fold (λ name byte. if nat_eq byte 58 then [] else name ++ byte ∷ []) [] path

unfoldable pub scope_of : List ℕ → List ℕ
scope_of path = take (length path - length (name_of path) - 2) path

-- what has an id that goes over the wire
abbrev pub is_sent_kind : Kind → Bool
is_sent_kind kind.Interface = true
is_sent_kind kind.Structure = true
is_sent_kind kind.Union = true
is_sent_kind kind.Enumeration = true
is_sent_kind kind.Exception = true
is_sent_kind other = false

-- what a row tells of a TypeCode: which other type an alias is, the enumerators of an enum, whether
-- an interface is local
abbrev pub alias_in : TypeCodeParts → Option LayeredType
alias_in (parts.Alias t) = Some t
alias_in other = None

abbrev pub enumerators_in : TypeCodeParts → List (List ℕ)
enumerators_in (parts.Enumeration names) = names
enumerators_in other = []

abbrev pub is_local_in : TypeCodeParts → Bool
is_local_in parts.LocalInterface = true
is_local_in other = false

abbrev pub type_code_of : RowDetails → Option TypeCodeParts
type_code_of (row.Type d) = Some d.code.parts
type_code_of other = None

-- the bases of an interface, or that of a struct
abbrev pub bases_of : RowDetails → List Reference
bases_of (row.Type d) = d.bases
bases_of other = []

-- the same of an entry: an alias has that kind besides
abbrev pub alias_of : RowTree → Option LayeredType
alias_of e =
    if kind_eq e.kind kind.Alias
    then option_and_then alias_in (type_code_of e.details)
    else None

abbrev pub enumerators_of : RowTree → List (List ℕ)
enumerators_of e = option_map_or enumerators_in (type_code_of e.details) []

abbrev pub is_local : RowTree → Bool
is_local e = option_map_or is_local_in (type_code_of e.details) false

-- and by its place
abbrev pub alias_at : List RowTree → ℕ → Option LayeredType
alias_at L n = option_and_then alias_of (slice_get L n)

abbrev pub enumerators_at : List RowTree → ℕ → List (List ℕ)
enumerators_at L n = option_map_or enumerators_of (slice_get L n) []

abbrev pub is_local_at : List RowTree → ℕ → Bool
is_local_at L n = option_map_or is_local (slice_get L n) false

abbrev pub bases_at : List RowTree → ℕ → List Reference
bases_at L n = option_map_or (λ e. bases_of e.details) (slice_get L n) []

abbrev pub path_at : List RowTree → ℕ → List ℕ
path_at L n = option_map_or (λ e. e.path) (slice_get L n) []

abbrev pub name_at : List RowTree → ℕ → List ℕ
name_at L n = name_of (path_at L n)

-- the place of the interface to which a path leads, if it is one, and of the one in whose scope an
-- entry is
abbrev pub is_interface : RowTree → Bool
is_interface e = kind_eq e.kind kind.Interface

unfoldable pub interface_at : List RowTree → List ℕ → Option ℕ
interface_at L path =
    option_and_then
    (λ n. if option_map_or is_interface (slice_get L n) false then Some n else None)
    (place_of L path)

abbrev pub interface_of : List RowTree → RowTree → Option ℕ
interface_of L e = interface_at L (scope_of e.path)

-- whether an entry has an id and isn't called
abbrev pub has_id : List ℕ → RowTree → Bool
has_id id e = not (is_called e) && bytes_eq id e.id

-- the entry of another listing that has the id of one, and as many of that id before it: the first
-- goes on as the first, the second as the second
abbrev pub next_by_id : (L before : List RowTree) → RowTree → Option ℕ
next_by_id L before e =
    if is_called e
    then None
    else slice_get (places_where (has_id e.id) L) (length (filter (has_id e.id) before))

-- that of the one at a place
unfoldable pub by_id : (old new : List RowTree) → ℕ → RowTree → Option ℕ
by_id old new i e = next_by_id new (take i old) e
