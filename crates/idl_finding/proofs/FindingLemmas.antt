-- What is found in the events of a root.
use Rattle.std.proofs.Common.{◌≡◌, List, [], ◌∷◌, flat_map, refl, slice_get, ap}
use Rattle.idl_event.specs.Apart.{Numbered, others_in}
use Rattle.idl_event.specs.declared.told.event.Event.TheVariants as event
use Rattle.idl_finding.specs.Findings.{event_finding, found_at}
use Rattle.idl_unit.specs.TokenRules.{first}

-- nothing is found in tokens
pub flat_map-others_in : (events : List Numbered) → flat_map event_finding (others_in events) ≡ flat_map event_finding events
flat_map-others_in [] = refl
flat_map-others_in ((n, event.Emitted place token) ∷ events) = flat_map-others_in events
flat_map-others_in ((n, event.Entered file) ∷ events) = flat_map-others_in events
flat_map-others_in ((n, event.Left file) ∷ events) = flat_map-others_in events
flat_map-others_in ((n, event.Pragma place tokens) ∷ events) = flat_map-others_in events
flat_map-others_in ((n, event.Fault place code text) ∷ events) =
    ap (λ found. found_at n place code text ∷ found) (flat_map-others_in events)

-- the first of a list
pub slice_get-first : {X : Type 0} (xs : List X) → slice_get xs 0 ≡ first xs
slice_get-first [] = refl
slice_get-first (x ∷ xs) = refl
