-- Where the names of a root stand: each with the place of its token, its number in its line and its
-- spelling.
use Rattle.std.specs.Prelude.{◌≡◌, ℕ, ◌-◌, Bool, List, [], ◌∷◌, ◌++◌, filter, flat_map, length, map, slice_get, Option, None, Some}
use Rattle.std.specs.Map.{lookup}
use Rattle.std.specs.Option.{unwrap_or}
use Rattle.idl_root_blocks.specs.idl_check.declared.walk.names.NameRole.TheVariants.{Declared, Used}
use Rattle.idl_root_blocks.specs.idl_check.declared.walk.names.NamedSite.{NamedSite}
use Rattle.idl_entity.specs.Path.{path_eq}
use Rattle.idl_event.specs.Apart.{place_in}
use Rattle.idl_event.specs.declared.told.event.Event.{Event}
use Rattle.idl_event.specs.declared.told.site.Site.{Site}
use Rattle.idl_lex.specs.tokens.Tokens.{Token}
use Rattle.idl_finding.specs.Findings.{site_of, tokens_of}
use Rattle.idl_root.specs.Named.{AreNumbersIn, NamedUnit, ends_of}
use Rattle.idl_finding.specs.Number.{token_number}
use Rattle.idl_root.specs.declared.compiling.places.PlacedName.{PlacedName}
use Rattle.idl_root.specs.declared.compiling.places.DeclaredPlace.{DeclaredPlace}
use Rattle.idl_root.specs.declared.compiling.places.RootNames.{RootNames}
use Rattle.idl_root.specs.declared.compiling.places.SitedToken.{SitedToken}
use Rattle.idl_root.specs.declared.compiling.places.UsedName.{UsedName}

-- a token at its site, among the events of its root
abbrev pub sited : List Event → Option Site → Option Token → Option SitedToken
sited events (Some site) (Some token) = Some (record {
  place = place_in site;
  number = token_number events site.event;
  text = token;
})
sited events site token = None

-- the token with a number of a unit
abbrev pub sited_in : List Event → NamedUnit → ℕ → Option SitedToken
sited_in events n index =
    sited events (site_of n.text n.sites index) (slice_get (tokens_of n.text) index)

-- its last token
abbrev pub last_in : List Event → NamedUnit → Option SitedToken
last_in events n = sited_in events n (length (tokens_of n.text) - 1)

-- a declared name at its token, with the first token of its unit, and the last of that in which what
-- it declares ends
abbrev pub declared_with : List (List ℕ) → Option SitedToken → Option SitedToken
    → Option SitedToken → List PlacedName
declared_with path (Some name) (Some begin) (Some end) =
    record { path = path; place = record { name = name; first = begin; last = end } } ∷ []
declared_with path name begin end = []

-- a name of a unit, if it declares: what it declares ends in the second unit
abbrev pub declared_by : List Event → NamedUnit → NamedUnit → NamedSite → List PlacedName
declared_by events n end s =
    elim s.role [
      | Declared ↦ declared_with s.path (sited_in events n s.index) (sited_in events n 0)
          (last_in events end)
      | Used ↦ []
    ]

abbrev pub declared_in : List Event → NamedUnit → NamedUnit → List PlacedName
declared_in events n end = flat_map (declared_by events n end) n.names

-- those of units in order, each with the one in which what it declares ends
abbrev pub declared_until : List Event → List NamedUnit → List NamedUnit → List PlacedName
declared_until events [] ends = []
declared_until events (n ∷ units) [] = []
declared_until events (n ∷ units) (end ∷ ends) =
    declared_in events n end ++ declared_until events units ends

-- all declared names of units
unfoldable pub declared_names : List Event → List NamedUnit → List PlacedName
declared_names events units = declared_until events units (ends_of units)

-- where the name at a path is declared, in order
abbrev pub is_at : List (List ℕ) → PlacedName → Bool
is_at path name = path_eq path name.path

abbrev pub places_at : List (List ℕ) → List PlacedName → List DeclaredPlace
places_at path names = map (λ name. name.place) (filter (is_at path) names)

-- a name of a unit, if it is used
abbrev pub used_with : List (List ℕ) → Option SitedToken → List UsedName
used_with path None = []
used_with path (Some name) = record { name = name; path = path } ∷ []

abbrev pub used_by : List Event → NamedUnit → NamedSite → List UsedName
used_by events n s =
    elim s.role [ Declared ↦ [] | Used ↦ used_with s.path (sited_in events n s.index) ]

abbrev pub used_in : List Event → NamedUnit → List UsedName
used_in events n = flat_map (used_by events n) n.names

-- all used names of units
unfoldable pub used_names : List Event → List NamedUnit → List UsedName
used_names events units = flat_map (used_in events) units

-- the numbers that a table has for a path
abbrev pub numbers_at : List (List (List ℕ) × List ℕ) → List (List ℕ) → List ℕ
numbers_at table path = unwrap_or (lookup (path_eq path) table) []

-- it has for each path the numbers of the names there
abbrev pub AreNumbered : List PlacedName → List (List (List ℕ) × List ℕ) → Type 0
AreNumbered names table = (path : List (List ℕ))
    → AreNumbersIn names (numbers_at table path) (filter (is_at path) names)

-- what the code holds are the names of these units
pub record AreNamesOf (names : RootNames) (events : List Event) (units : List NamedUnit) : Type 0 where
  pub declared : names.declared.items ≡ declared_names events units
  pub numbers : AreNumbered names.declared.items names.numbers
  pub used : names.used.items ≡ used_names events units
