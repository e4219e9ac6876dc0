use Rattle.std.proofs.Common.{Bor, List, Option, subst, sym}
use Rattle.std.specs.Option.{IfSome}
use Rattle.idl_event.specs.declared.told.event.Event.{Event}
use Rattle.idl_project.proofs.AnsweredLemmas.{IsSmall}
use Rattle.idl_project.proofs.answered.count_within.Goals as goal

pub returns-in-Some : goal.returns-in-Some
returns-in-Some c = subst (λ (found : Option (Bor (List Event))). IfSome found IsSmall) (sym c.in-Some.is) c.count.ensures

pub returns-in-None : goal.returns-in-None
returns-in-None c = subst (λ (found : Option (Bor (List Event))). IfSome found IsSmall) (sym c.in-None.is) tt
