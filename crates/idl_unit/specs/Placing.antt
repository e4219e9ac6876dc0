-- Words for the steps of the cut of events.
use Rattle.std.specs.Prelude.{◌≡◌, ℕ, ◌-◌, ◌<◌, ◌≤◌, IfSome, List, [], ◌∷◌, ◌++◌, drop, length, nat_eq, nat_lt, take, if◌then◌else◌}
use Rattle.idl_event.specs.Apart.{Numbered}
use Rattle.idl_event.specs.declared.told.event.Event.TheVariants as event
use Rattle.idl_event.specs.declared.told.site.Site.{Site}
use Rattle.idl_lex.specs.tokens.Tokens.{Token}
use Rattle.idl_unit.specs.Ending.{token_units}
use Rattle.idl_unit.specs.Units.{unit_in}
use Rattle.idl_unit.specs.declared.cut.Cut.{Cut}
use Rattle.idl_unit.specs.declared.unit.Unit.{Unit as RootUnit}
use Rattle.idl_unit.specs.declared.unit.Unit.TheVariants.{Spelled}
use Rattle.idl_unit.specs.declared.unit.UnitText.TheVariants.{Tokens}

-- what is still to come: the units of tokens that haven't begun, the sites of their tokens, and how
-- many tokens of the present unit
pub record Ahead : Type 0 where
  pub units : List (List Token)
  pub sites : List Site
  pub inside : ℕ

-- the unit that begins at the next token
abbrev pub begun_of : List (List Token) → List Site → List RootUnit
begun_of [] sites = []
begun_of (unit ∷ units) sites = Spelled (Tokens unit) (take (length unit) sites) ∷ []

abbrev pub begun : Ahead → List RootUnit
begun a = if nat_eq a.inside 0 then begun_of a.units a.sites else []

-- what is still to come when it has begun and its first token has come
abbrev pub after_begun : List (List Token) → List Site → Ahead
after_begun [] sites = record { units = []; sites = sites; inside = 0 }
after_begun (unit ∷ units) sites =
    record { units = units; sites = drop (length unit) sites; inside = length unit - 1 }

-- what is still to come after the next token
abbrev pub after_token : Ahead → Ahead
after_token a =
    if nat_eq a.inside 0 then after_begun a.units a.sites
    else record a { inside = a.inside - 1 }

-- the units of the events, where this is still to come
abbrev pub placed : Ahead → List Numbered → List RootUnit
placed a [] = []
placed a ((n, event.Emitted place token) ∷ events) = begun a ++ placed (after_token a) events
placed a ((n, other) ∷ events) = unit_in (nat_lt 0 a.inside) (n, other) ++ placed a events

-- what is still to come of a cut
abbrev pub ahead : Cut → Ahead
ahead cut = record {
  units = token_units (drop cut.taken cut.text.now);
  sites = drop cut.taken cut.sites.now.value;
  inside = cut.inside;
}

-- its units, with those of the events to come
abbrev pub to_come : Cut → List Numbered → List RootUnit
to_come cut events = cut.units.items ++ placed (ahead cut) events

-- the tokens of a run from this place on, where it has some, are what these begin with
pub record IsFront (run : List Token) (place : ℕ) (left : List Token) : Type 0 where
  pub some : place < length run
  pub rest : List Token
  pub all : left ≡ drop place run ++ rest

-- a token has one site, the cut is within the text, and the run that it stands in is known if it
-- has more
pub record IsWithin (cut : Cut) : Type 0 where
  pub length_same : length cut.sites.now.value
      ≡ length cut.text.now
  pub taken_at_most : cut.taken ≤ length cut.text.now
  pub run : IfSome cut.run (λ run. cut.place < length run.now
      → IsFront run.now cut.place (drop cut.taken cut.text.now))

-- the first unit of these tokens
pub record IsFirstUnit (unit left : List Token) : Type 0 where
  pub some : 0 < length unit
  pub within : length unit ≤ length left
  pub first : unit ≡ take (length unit) left
  pub cut : token_units left ≡ unit ∷ token_units (drop (length unit) left)
