use Rattle.std.proofs.Common.{List, Option, subst}
use Rattle.std.specs.Option.{IfSome}
use Rattle.idl_event.specs.declared.told.event.Event.{Event}
use Rattle.idl_prep.specs.Root.{expanded}
use Rattle.idl_related.specs.Related.{AreRelated}
use Rattle.idl_related.specs.declared.second.Related.{Related}
use Rattle.idl_inputs.specs.Bank.{bank_of}
use Rattle.idl_sources.proofs.related.related_over.Goals as goal

pub returns-in-Some : goal.returns-in-Some
returns-in-Some c =
    subst (λ (found : Option (List (List Related))). IfSome found (λ related. (events : List Event) → AreRelated events c.args.findings.now related))
    c.in-Some.is c.in_ok-none.ensures (expanded c.args.root.now (bank_of c.args.sources.now)).0
