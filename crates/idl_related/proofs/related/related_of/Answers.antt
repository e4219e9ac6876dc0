use Rattle.std.proofs.Common.{◌≡◌, All, List, Option, length, reverse, subst}
use Rattle.std.specs.Option.{IfSome}
use Rattle.idl_event.specs.declared.told.event.Event.{Event}
use Rattle.idl_related.specs.FirstDeclared.{assigned}
use Rattle.idl_related.specs.Judged.{AreOfFindings}
use Rattle.idl_related.specs.Related.{AreOfFinding, AreRelated}
use Rattle.idl_related.specs.declared.second.Related.{Related}
use Rattle.idl_related.proofs.FirstDeclaredLemmas.{IfOk-both}
use Rattle.idl_related.proofs.related.related_of.Goals as goal

pub returns-in-Some : goal.returns-in-Some
returns-in-Some c =
    subst (λ (found : Option (List (List Related))). IfSome found (λ related. (events : List Event) → AreRelated events c.args.findings.now related))
    c.in-Some.is c.in_ok-none.ensures c.args.expansion.now

pub returns : goal.returns
returns c =
    let events = c.args.expansion.now in
    let findings = c.args.findings.now in
    let told = c.in_ok-told.told.items in
    IfOk-both c.matched.result
    (λ related. (out : List Event) → AreOfFindings out told → (length related ≡ length findings) × All (AreOfFinding out) related)
    (λ related. related ≡ assigned findings (reverse told)) (AreRelated events findings)
    (λ related lists assigns. let are = lists events c.in_ok-told.ensures.told in record {
      count = are.0;
      lists = are.1;
      first_declared = λ asks. record { told = reverse told; are = c.in_ok-told.ensures.first_declared asks; assigned = assigns };
    })
    c.matched.ensures.lists c.matched.ensures.assigned
