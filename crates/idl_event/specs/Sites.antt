-- How the sites of tokens are kept: by stretches, and by lines in these.
use Rattle.std.specs.Prelude.{◌≡◌, ℕ, zero, suc, ◌+◌, ◌<◌, ◌≤◌, ◌^◌, List, [], ◌∷◌, ◌++◌, length, nat_le, slice_get, Option, None, Some, if◌then◌else◌, ⊤}
use Rattle.std.specs.List.{AllByRecursion}
use Rattle.std.specs.Option.{option_map, unwrap_or}
use Rattle.idl_event.specs.Apart.{site_at, text_sites}
use Rattle.idl_fault.specs.declared.place.Place.{Place}
use Rattle.idl_event.specs.declared.told.site.Site.{Site}
use Rattle.idl_event.specs.declared.told.sites.LineEntry.{LineEntry}
use Rattle.idl_event.specs.declared.told.sites.Stretch.{Stretch}
use Rattle.idl_lex.specs.declared.tokens.token.PlacedToken.{PlacedToken}

-- the last of these that begins at the token with this number, or before it
abbrev pub spot_at : List LineEntry → ℕ → Option LineEntry
spot_at [] i = None
spot_at (s ∷ spots) i = if nat_le s.first i then Some (unwrap_or (spot_at spots i) s) else None

-- the line of a token in these, and its stretch
abbrev pub in_stretch : List Stretch → Option LineEntry → Option (ℕ × Stretch)
in_stretch stretches None = None
in_stretch stretches (Some spot) = option_map (λ s. (spot.line, s)) (slice_get stretches spot.stretch)

-- those of the token with this number
abbrev pub found : List Stretch → List LineEntry → ℕ → Option (ℕ × Stretch)
found stretches spots i = in_stretch stretches (spot_at spots i)

-- where it stands: its event comes behind the others before the stretch
abbrev pub site_in : ℕ → Option (ℕ × Stretch) → List Site
site_in i None = []
site_in i (Some (line, s)) = record { file = s.file; line = line; event = i + s.others } ∷ []

-- the sites of so many tokens
abbrev pub sites_of : List Stretch → List LineEntry → ℕ → List Site
sites_of stretches spots zero = []
sites_of stretches spots (suc n) =
    sites_of stretches spots n ++ site_in n (found stretches spots n)

-- each begins at a token before this one
abbrev pub AreBefore : ℕ → List LineEntry → Type 0
AreBefore n spots = AllByRecursion (λ spot. spot.first < n) spots

-- none begins before an earlier one
abbrev pub Rise : List LineEntry → Type 0
Rise [] = ⊤
Rise (s ∷ spots) = AllByRecursion (λ spot. s.first ≤ spot.first) spots × Rise spots

-- each of so many tokens has its line and its stretch
pub record AreKept (stretches : List Stretch) (spots : List LineEntry) (count : ℕ) : Type 0 where
  pub stands : (i : ℕ) → i < count → (x : ℕ × Stretch) × (found stretches spots i ≡ Some x)
  pub before : AreBefore count spots
  pub rise : Rise spots
  pub few : count ≤ 2 ^ 32

-- the token with this number stands at this place
abbrev pub StandsAt : List Site → ℕ → Place → Type 0
StandsAt sites i place = (event : ℕ) × (slice_get sites i ≡ Some (site_at event place))

-- tokens of a file, from this number on and in a stretch with this number, have spots more: with
-- these they have their sites
abbrev pub HaveSites : List LineEntry → List LineEntry → ℕ → ℕ → List PlacedToken → Type 0
HaveSites old new first stretch tokens =
    (stretches : List Stretch) (s : Stretch) → slice_get stretches stretch ≡ Some s
    → AreKept stretches old first
    → AreKept stretches new (first + length tokens)
    × (sites_of stretches new (first + length tokens)
    ≡ sites_of stretches old first
    ++ text_sites (length (sites_of stretches old first) + s.others) s.file tokens)
