-- Tables of what is looked up often: each is made once, and has what its definition gives.
use Rattle.std.specs.Prelude.{◌≡◌, ℕ, List, length, map, nat_eq, not, Option, position, slice_get, unwrap_or}
use Rattle.std.specs.List.{enumerate_from, list_any}
use Rattle.std.specs.Map.{lookup}
use Rattle.std.specs.Option.{option_map}
use Rattle.std.specs.Str.{bytes_eq}
use Rattle.idl_changes.specs.Keys.{numbered_eq}
use Rattle.idl_changes.specs.Listing.{alias_of, has_id, place_of, places_where}
use Rattle.idl_changes.specs.Offered.{ancestors, called_in, last_first, offered}
use Rattle.idl_changes.specs.Partners.{joined, partner}
use Rattle.idl_changes.specs.Plain.{is_labelled, opened_before}
use Rattle.idl_changes.specs.declared.keys.NumberedText.{NumberedText}
use Rattle.idl_repo.specs.declared.details.row_tree.RowTree.{RowTree}
use Rattle.idl_repo.specs.declared.details.type_code_tree.CaseTree.{CaseTree}
use Rattle.idl_repo.specs.declared.details.type_tree.LayeredType.{LayeredType}

-- what a function gives of each entry and its place
abbrev pub each : {X : Type 0} → (ℕ → RowTree → X) → List RowTree → List X
each f L = map (λ p. f p.0 p.1) (enumerate_from 0 L)

-- the place to which each path leads
abbrev pub ArePlaces : List RowTree → List (List ℕ × ℕ) → Type 0
ArePlaces L places = (path : List ℕ) → lookup (bytes_eq path) places ≡ place_of L path

-- the first place of each of these names
abbrev pub AreFirst : List (List ℕ) → List (List ℕ × ℕ) → Type 0
AreFirst names places = (name : List ℕ)
    → lookup (bytes_eq name) places ≡ position (bytes_eq name) names

-- the place of the case of each label, where these are the enumerators of the discriminator
abbrev pub AreLabelled : List (List ℕ) → List CaseTree → List (NumberedText × ℕ) → Type 0
AreLabelled names cases places = (label : NumberedText)
    → lookup (numbered_eq label) places ≡ position (is_labelled names label) cases

-- what a table has for a text with a number
abbrev pub found_at : List (NumberedText × ℕ) → (text : List ℕ) → (number : ℕ) → Option ℕ
found_at table text number = lookup (numbered_eq (record { text = text; number = number })) table

-- the place of the entry of each id that has so many before it
abbrev pub AreIds : List RowTree → List (NumberedText × ℕ) → Type 0
AreIds L ids = (id : List ℕ) (n : ℕ)
    → found_at ids id n ≡ slice_get (places_where (has_id id) L) n

-- how many of each id there are
abbrev pub AreCounts : List RowTree → List (List ℕ × ℕ) → Type 0
AreCounts L counts = (id : List ℕ)
    → unwrap_or (lookup (bytes_eq id) counts) 0 ≡ length (places_where (has_id id) L)

-- what is offered under each name, by the interface's place
abbrev pub AreOffers : List RowTree → List (NumberedText × ℕ) → Type 0
AreOffers L offers = (i : ℕ) (name : List ℕ) → found_at offers name i ≡ offered L i name

-- how many places of a listing aren't among these
abbrev pub count_besides : List RowTree → List ℕ → ℕ
count_besides L among = length (last_first (λ n. not (list_any (nat_eq n) among)) (length L))

-- the plain type of an alias
abbrev pub plain_alias : List RowTree → ℕ → RowTree → Option LayeredType
plain_alias L i e = option_map (opened_before L i) (alias_of e)

-- the tables of a listing
pub record IsSide (L : List RowTree) (plains : List (Option LayeredType))
    (inherited called : List (List ℕ)) (offers : List (NumberedText × ℕ)) : Type 0 where
  pub aliases : plains ≡ each (plain_alias L) L
  pub bases : inherited ≡ each (λ i e. ancestors L i) L
  pub scopes : called ≡ each (λ i e. called_in L i) L
  pub names : AreOffers L offers

-- of two listings which entries belong together, of the old one and of the new one, that aren't
-- called; and of the old one all
pub record AreSides (old new : List RowTree) (forth back all : List (Option ℕ)) : Type 0 where
  pub before : forth ≡ each (λ i e. joined old new i) old
  pub after : back ≡ each (λ i e. joined new old i) new
  pub partners : all ≡ each (λ i e. partner old new i) old
