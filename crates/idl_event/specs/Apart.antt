-- The events of a root, where the tokens of its text stand apart from the others.
use Rattle.std.specs.Prelude.{◌≡◌, ℕ, zero, suc, ◌+◌, ◌≤◌, List, [], ◌∷◌, ◌++◌, drop, flat_map, length, take}
use Rattle.std.specs.List.{enumerate_from, fold}
use Rattle.idl_event.specs.declared.told.event.Event.{Event}
use Rattle.idl_event.specs.declared.told.event.Event.TheVariants as event
use Rattle.idl_fault.specs.declared.file_name.FileName.{FileName}
use Rattle.idl_fault.specs.declared.place.Place.{Place}
use Rattle.idl_event.specs.declared.told.site.Site.{Site}
use Rattle.idl_lex.specs.tokens.Tokens.{Token}
use Rattle.idl_lex.specs.declared.tokens.token.PlacedToken.{PlacedToken}

-- an event with its number
abbrev pub Numbered : Type 0
Numbered = ℕ × Event

abbrev pub site_at : ℕ → Place → Site
site_at n place = record { file = place.file; line = place.line; event = n }

-- so many sites at one place, whose events come one after the other
abbrev pub sites_at : ℕ → Place → ℕ → List Site
sites_at n place zero = []
sites_at n place (suc count) = site_at n place ∷ sites_at (n + 1) place count

-- a token of a file's text, as an event at its line
abbrev pub emitted_in : FileName → PlacedToken → Event
emitted_in file t = event.Emitted (record { file = file; line = t.line }) t.token

-- the sites of tokens of a file, whose events come one after the other
abbrev pub text_sites : ℕ → FileName → List PlacedToken → List Site
text_sites n file [] = []
text_sites n file (t ∷ tokens) =
    record { file = file; line = t.line; event = n } ∷ text_sites (n + 1) file tokens

abbrev pub place_in : Site → Place
place_in site = record { file = site.file; line = site.line }

-- the token that an event is: one, or none
abbrev pub token_in : Numbered → List Token
token_in (n, event.Emitted place token) = token ∷ []
token_in (n, other) = []

-- where it stands
abbrev pub site_in : Numbered → List Site
site_in (n, event.Emitted place token) = site_at n place ∷ []
site_in (n, other) = []

-- the event, if it is no token
abbrev pub other_in : Numbered → List Numbered
other_in (n, event.Emitted place token) = []
other_in (n, other) = (n, other) ∷ []

abbrev pub tokens_in : List Numbered → List Token
tokens_in events = flat_map token_in events

abbrev pub sites_in : List Numbered → List Site
sites_in events = flat_map site_in events

abbrev pub others_in : List Numbered → List Numbered
others_in events = flat_map other_in events

-- tokens at their sites, as events
abbrev pub emitted : List Site → List Token → List Event
emitted [] tokens = []
emitted (site ∷ sites) [] = []
emitted (site ∷ sites) (token ∷ tokens) = event.Emitted (place_in site) token ∷ emitted sites tokens

-- an event more, at its number
abbrev pub with_event : List Event → Numbered → List Event
with_event events (n, event) = take n events ++ event ∷ drop n events

-- tokens at their sites, among which each other event is put at its number, the first one first
abbrev pub woven : List Site → List Token → List Numbered → List Event
woven sites tokens others = fold with_event (emitted sites tokens) others

-- tokens, their sites and other events are all that stand among these
pub record AreApart (sites : List Site) (tokens : List Token) (others events : List Numbered)
    : Type 0 where
  pub are_sites : sites ≡ sites_in events
  pub are_tokens : tokens ≡ tokens_in events
  pub are_others : others ≡ others_in events

-- they are all that stand among the events that they make, and what is emitted later stands behind
-- these
pub record StandApart (sites : List Site) (tokens : List Token) (others : List Numbered)
    : Type 0 where
  pub all : AreApart sites tokens others (enumerate_from 0 (woven sites tokens others))
  pub later : (more : List Event) → fold with_event (emitted sites tokens ++ more) others
      ≡ woven sites tokens others ++ more

-- the events from a number on
abbrev pub events_from : ℕ → List Event → List Numbered
events_from n events = enumerate_from n (drop n events)

-- so many tokens come first, and then the rest
pub record TokensFirst (count : ℕ) (events rest : List Numbered) : Type 0 where
  pub tokens : List Numbered
  pub long : length tokens ≡ count
  pub alone : others_in tokens ≡ []
  pub all : events ≡ tokens ++ rest

-- so many tokens and so many other events were passed by
pub record ArePassed (sites : List Site) (tokens : List Token) (others : List Numbered) (n k : ℕ)
    : Type 0 where
  pub tokens_within : n ≤ length tokens
  pub others_within : k ≤ length others
  pub left : AreApart (drop n sites) (drop n tokens) (drop k others)
      (events_from (n + k) (woven sites tokens others))
