-- Where what is wrong with a name at the end of a root is told: at the first of its places.
use Rattle.std.specs.Prelude.{◌≡◌, List, [], ◌∷◌, All, Some}
use Rattle.idl_env.specs.Facts.{UnitFacts}
use Rattle.idl_event.specs.declared.told.event.Event.{Event}
use Rattle.idl_finding.specs.Findings.{numbered}
use Rattle.idl_root.specs.NamePlaces.{places_at}
use Rattle.idl_root.specs.Printed.{Listed, closing_finding}
use Rattle.idl_finding.specs.declared.finding.Finding.{Finding}
use Rattle.idl_root.specs.declared.compiling.places.PlacedName.{PlacedName}
use Rattle.idl_root.specs.declared.compiling.places.DeclaredPlace.{DeclaredPlace}

-- a finding stands where a name is declared, and shows that name
abbrev pub StandsAt : DeclaredPlace → Finding → Type 0
StandsAt place f =
    (f.place ≡ place.name.place) × (f.number ≡ place.name.number)
    × (f.text ≡ Some place.name.text)

-- it stands at the first of these places
abbrev pub StandsAtFirst : List DeclaredPlace → Finding → Type 0
StandsAtFirst [] f = ⊥
StandsAtFirst (place ∷ places) f = StandsAt place f

-- What is wrong with a name at the end, over all facts, stands at the first of the places at which
-- names of the root are declared under its path.
abbrev pub ClosesAtFirst : List Event → List UnitFacts → List PlacedName → Listed → Type 0
ClosesAtFirst events facts names l =
    All (λ f. StandsAtFirst (places_at l.path names) (numbered events f)) (closing_finding facts l)
