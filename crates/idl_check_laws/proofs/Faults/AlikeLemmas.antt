-- Lists of faults of which the same is told.
use Rattle.std.proofs.Common.{◌≡◌, ◌∙◌, List, [], ◌∷◌, ◌++◌, Option, sym, ap}
use Rattle.std.specs.Prelude.{All}
use Rattle.idl_check.specs.walk.Walk.{noted}
use Rattle.idl_unit.specs.declared.fault.Fault.{Fault}
use Rattle.idl_check.proofs.Faults.FaultOrder.{Leads}
use Rattle.idl_check.proofs.Faults.NotedLemmas.{noted-append, noted-led}

-- the same one counts, whatever was noted before
abbrev pub AreAlike : List Fault → List Fault → Type 0
AreAlike fs gs = (o : Option Fault) → noted o fs ≡ noted o gs

pub alike-append : (fs gs hs ks : List Fault) → AreAlike fs gs → AreAlike hs ks → AreAlike (fs ++ hs) (gs ++ ks)
alike-append fs gs hs ks a b o = sym (noted-append o fs hs) ∙ ap (λ p. noted p hs) (a o) ∙ b (noted o gs) ∙ noted-append o gs ks

-- behind one that is less than they are they don't count
pub alike-led : (f : Fault) (fs : List Fault) → All (Leads f) fs → AreAlike (f ∷ fs) (f ∷ [])
alike-led f fs led o = noted-led o (f ∷ fs) led
