-- Types without aliases, and what a union's label says over the wire.
use Rattle.std.specs.Prelude.{ℕ, zero, suc, ◌+◌, Bool, false, List, [], ◌++◌, Option, None, Some, find, is_none, length, nat_eq, position, if◌then◌else◌}
use Rattle.std.specs.Option.{option_eq, option_map_or, option_or}
use Rattle.std.specs.Str.{bytes_eq}
use Rattle.idl_changes.specs.Listing.{alias_at, enumerators_at, place_of}
use Rattle.idl_changes.specs.Keys.{numbered_eq}
use Rattle.idl_changes.specs.declared.keys.NumberedText.{NumberedText}
use Rattle.idl_repo.specs.declared.details.row_tree.RowTree.{RowTree}
use Rattle.idl_repo.specs.declared.details.type_code_tree.CaseTree.{CaseTree}
use Rattle.idl_repo.specs.declared.details.type_tree.ElementTree.{ElementTree}
use Rattle.idl_repo.specs.declared.details.type_tree.ElementTree.TheVariants as tree
use Rattle.idl_repo.specs.declared.details.type_tree.LayeredType.{LayeredType}

-- a type with the layers of another one around it, the innermost first
abbrev pub around : LayeredType → LayeredType → LayeredType
around t u = record { element = u.element; layers = u.layers ++ t.layers }

-- the place of the entry that a type names
abbrev pub named_by : List RowTree → ElementTree → Option ℕ
named_by L (tree.Named r) = place_of L r.path
named_by L other = None

-- a type, and where it names the alias at a place, what that is, with the type's layers around it
abbrev pub opened : List RowTree → ℕ → LayeredType → LayeredType
opened L n t =
    if option_eq nat_eq (named_by L t.element) (Some n)
    then option_map_or (around t) (alias_at L n) t
    else t

-- that with each alias before a place, the last first: an alias names only what stands before it
abbrev pub opened_before : List RowTree → ℕ → LayeredType → LayeredType
opened_before L zero t = t
opened_before L (suc n) t = opened_before L n (opened L n t)

-- the type without aliases
unfoldable pub plain : List RowTree → LayeredType → LayeredType
plain L t = opened_before L (length L) t

-- the enumerators of a type that is an enum
unfoldable pub enumerators : List RowTree → LayeredType → List (List ℕ)
enumerators L t = option_map_or (enumerators_at L) (named_by L (plain L t).element) []

-- a label as it goes over the wire: an enumerator by its number, from 1 on, and another one as it
-- is listed
unfoldable pub label_of : List (List ℕ) → List ℕ → NumberedText
label_of names text =
    elim (position (bytes_eq text) names)
    [ None ↦ record { text = text; number = 0 } | Some n ↦ record { text = []; number = n + 1 } ]

-- whether a case stands at a label, where these are the enumerators of the union's discriminator
abbrev pub is_labelled : List (List ℕ) → NumberedText → CaseTree → Bool
is_labelled names label c =
    option_map_or (λ text. numbered_eq (label_of names text) label) c.label false

-- the case of a label, and that of `default`
unfoldable pub labelled : List (List ℕ) → List CaseTree → NumberedText → Option CaseTree
labelled names cases label = find (is_labelled names label) cases

unfoldable pub default_of : List CaseTree → Option CaseTree
default_of cases = find (λ c. is_none c.label) cases

-- what a label selects
unfoldable pub selected : List (List ℕ) → List CaseTree → NumberedText → Option CaseTree
selected names cases label = option_or (labelled names cases label) (default_of cases)
