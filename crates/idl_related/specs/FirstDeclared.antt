-- Second places of redeclarations: where a name is declared first at its key.
use Rattle.std.specs.Prelude.{◌≡◌, ℕ, ◌+◌, List, [], ◌∷◌, ◌++◌, drop, flat_map, is_some, map, nat_eq, option_to_list, slice_get, Option, None, Some, if◌then◌else◌}
use Rattle.std.specs.List.{fold}
use Rattle.std.specs.List.Sorted.{IsNonDecreasingBy, IsPermutation, IsStableByKey}
use Rattle.std.specs.Map.{lookup}
use Rattle.std.specs.Option.{option_or}
use Rattle.std.specs.Ordering.{nat_cmp}
use Rattle.idl_check.specs.walk.Names.{unit_names}
use Rattle.idl_check.specs.walk.Verdict.{added, verdict_over}
use Rattle.idl_check.specs.declared.walk.names.NamedSite.{NamedSite}
use Rattle.idl_check.specs.declared.walk.names.NameRole.TheVariants.{Declared, Used}
use Rattle.idl_env.specs.Facts.{UnitFacts, answers, entity_key}
use Rattle.idl_env.specs.Turns.{most_turns}
use Rattle.idl_env.specs.keys.Key.{key_eq}
use Rattle.idl_env.specs.declared.keys.key.Key.{Key}
use Rattle.idl_event.specs.Apart.{place_in}
use Rattle.idl_event.specs.declared.told.event.Event.{Event}
use Rattle.idl_event.specs.declared.told.site.Site.{Site}
use Rattle.idl_finding.specs.Findings.{site_of, tokens_of}
use Rattle.idl_finding.specs.Number.{token_number}
use Rattle.idl_finding.specs.declared.finding.Finding.{Finding}
use Rattle.idl_related.specs.Told.{has_second, is_redeclaration}
use Rattle.idl_related.specs.declared.told.RelatedPlaces.{RelatedPlaces}
use Rattle.idl_related.specs.declared.second.Reason.TheVariants as reason
use Rattle.idl_related.specs.declared.second.Related.{Related}
use Rattle.idl_related.specs.declared.second.Second.{Second}
use Rattle.idl_related.specs.declared.second.TokenPosition.{TokenPosition}
use Rattle.idl_unit.specs.TokenRules.{first}
use Rattle.idl_unit.specs.Units.{units_of}
use Rattle.idl_unit.specs.declared.fault.Fault.{Fault}
use Rattle.idl_unit.specs.declared.unit.Unit.{Unit as RootUnit}
use Rattle.idl_unit.specs.declared.unit.Unit.TheVariants.{Spelled}
use Rattle.idl_unit.specs.declared.unit.UnitText.{UnitText}

-- ---- the names that the units of a root declare, each over what those before it add

-- names at the keys by which they are asked, and where they stand
abbrev pub Names : Type 0
Names = List (Key × TokenPosition)

-- the units before one: what they add, the names that they declare, and how many they are
pub record UnitsBefore : Type 0 where
  pub facts : List UnitFacts
  pub names : Names
  pub number : ℕ

abbrev pub no_units : UnitsBefore
no_units = record { facts = []; names = []; number = 0 }

-- a name of the unit with this number, if it declares
abbrev pub declared_at : ℕ → NamedSite → Names
declared_at number n =
    elim n.role [
      | Declared ↦ (entity_key n.path, record { unit = number; token = n.index }) ∷ []
      | Used ↦ []
    ]

-- those of a text over facts, up to its fault where it has one
abbrev pub names_over : List UnitFacts → ℕ → UnitText → Names
names_over facts number text =
    flat_map (declared_at number) (unit_names most_turns (answers facts) text)

-- with one more, if none is at its key: each stands where it is declared first
abbrev pub with_name : Names → Key × TokenPosition → Names
with_name names n = if is_some (lookup (key_eq n.0) names) then names else names ++ n ∷ []

-- behind a text with this fault; a faulty one declares nothing
abbrev pub names_behind : UnitsBefore → UnitText → Option Fault → Names
names_behind before text None =
    fold with_name before.names (names_over before.facts before.number text)
names_behind before text (Some fault) = before.names

abbrev pub names_after : UnitsBefore → RootUnit → Names
names_after before (Spelled text sites) =
    names_behind before text (verdict_over before.facts text).fault
names_after before other = before.names

-- with one more unit
abbrev pub with_unit : UnitsBefore → RootUnit → UnitsBefore
with_unit before unit = record {
  facts = before.facts ++ added before.facts unit;
  names = names_after before unit;
  number = before.number + 1;
}

-- Where the name at a token is declared first, if that is before it: by one of these names of the
-- units before, or else by one of those of its own unit before it.
abbrev pub first_declaration : ℕ → Names → Names → Names → Option TokenPosition
first_declaration token names before [] = None
first_declaration token names before (n ∷ own) =
    if nat_eq n.1.token token
    then option_or (lookup (key_eq n.0) names) (lookup (key_eq n.0) before)
    else first_declaration token names (with_name before n) own

-- where the name at a token of a text is declared first, if that is before it
abbrev pub first_declaration_over : UnitsBefore → UnitText → ℕ → Option TokenPosition
first_declaration_over before text token =
    first_declaration token before.names [] (names_over before.facts before.number text)

-- the second place there
abbrev pub seconds_at : Option TokenPosition → List Second
seconds_at spot =
    map (λ s. record { reason = reason.Declared; spot = s; more = 0 }) (option_to_list spot)

-- ---- and what is told of their faults

-- a second place as it is told: of a token that stands somewhere
abbrev pub related_with : List Event → Second → Option Site → Option (List ℕ)
    → List Related
related_with events s (Some site) (Some token) = record {
  reason = s.reason;
  place = place_in site;
  number = token_number events site.event;
  text = token;
  more = s.more;
} ∷ []
related_with events s site token = []

abbrev pub related_in : List Event → Second → Option RootUnit → List Related
related_in events s (Some (Spelled text sites)) =
    related_with events s (site_of text sites s.spot.token)
    (slice_get (tokens_of text) s.spot.token)
related_in events s other = []

abbrev pub related_at : List Event → Second → List Related
related_at events s = related_in events s (slice_get (units_of events) s.spot.unit)

-- what is told of a fault that names an event, where a name at it is declared first there
abbrev pub told_at : List Event → Fault → Option TokenPosition → Option Site → List RelatedPlaces
told_at events fault spot None = []
told_at events fault spot (Some site) = record {
  event = site.event;
  code = fault.code;
  related =
      if is_redeclaration fault.code then flat_map (related_at events) (seconds_at spot) else [];
} ∷ []

-- what is told of a text whose tokens stand at these sites, if it has a fault that may have second
-- places
abbrev pub told_for : List Event → UnitsBefore → UnitText × List Site → Option Fault
    → List RelatedPlaces
told_for events before spelled None = []
told_for events before spelled (Some fault) =
    if has_second fault.code
    then told_at events fault (first_declaration_over before spelled.0 fault.index)
    (site_of spelled.0 spelled.1 fault.index)
    else []

abbrev pub told_by : List Event → UnitsBefore → RootUnit → List RelatedPlaces
told_by events before (Spelled text sites) =
    told_for events before (text, sites) (verdict_over before.facts text).fault
told_by events before other = []

-- of units behind those, in order
abbrev pub told_after : List Event → UnitsBefore → List RootUnit → List RelatedPlaces
told_after events before [] = []
told_after events before (u ∷ units) =
    told_by events before u ++ told_after events (with_unit before u) units

-- what is told, without the second places of other codes
abbrev pub without_other_places : RelatedPlaces → RelatedPlaces
without_other_places t = if is_redeclaration t.code then t else record t { related = [] }

-- what is told of one event stays in its order
abbrev pub KeepsOrder : List RelatedPlaces → List RelatedPlaces → Type 0
KeepsOrder old new = IsStableByKey (λ (t : RelatedPlaces). t.event) nat_cmp old new

-- what is told of a root's faults, in the order of the events that they name
pub record AreOfFaults (events : List Event) (told : List RelatedPlaces) : Type 0 where
  pub are :
      IsPermutation (told_after events no_units (units_of events)) (map without_other_places told)
  pub ordered : IsNonDecreasingBy (λ (t : RelatedPlaces). t.event) told
  pub kept :
      KeepsOrder (told_after events no_units (units_of events)) (map without_other_places told)

-- ---- and of findings

abbrev pub places_told : Option RelatedPlaces → List Related
places_told None = []
places_told (Some t) = t.related

-- The findings that may have second places have what is told, one after another. So these are to be
-- all that is found in the root, in order: what is told has no other mark of whose it is.
abbrev pub assigned : List Finding → List RelatedPlaces → List (List Related)
assigned [] told = []
assigned (f ∷ findings) told =
    if has_second f.code
    then places_told (first told) ∷ assigned findings (drop 1 told)
    else [] ∷ assigned findings told

-- all that is found in a root, in order, has what is told of its faults: a redeclaration has the
-- place where the name is declared first
pub record AreAssigned (events : List Event) (findings : List Finding)
    (related : List (List Related)) : Type 0 where
  pub told : List RelatedPlaces
  pub are : AreOfFaults events told
  pub assigned : related ≡ assigned findings told
