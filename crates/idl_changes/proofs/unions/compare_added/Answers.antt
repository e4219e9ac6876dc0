use Rattle.std.proofs.Common.{◌≡◌, ◌∙◌, ◌++◌, [], Bool, List, OnOk, ap, append-nil, if◌then◌else◌, is_some, subst, sym}
use Rattle.idl_changes.specs.Differences.{label_differences}
use Rattle.idl_changes.specs.declared.change.Difference.{Difference}
use Rattle.idl_changes.proofs.ListingLemmas.{some-lent}
use Rattle.idl_changes.proofs.unions.compare_added.Goals as goal

pub returns-then-is_some : goal.returns-then-is_some
returns-then-is_some c =
    let out = c.args.out.now.items in
    let told = label_differences c.args.sides.now.0 c.args.sides.now.1 c.args.unions.0.now c.args.unions.1.now c.args.named.0.now c.args.named.1.now in
    let held = ap is_some (sym c.labelled.ensures) ∙ some-lent c.labelled.result ∙ sym c.is_some.ensures ∙ c.if-is_some.true in
    sym (append-nil out) ∙ sym (ap (λ (b : Bool). out ++ (if b then [] else told)) held)

pub returns : goal.returns
returns c =
    let told = label_differences c.args.sides.now.0 c.args.sides.now.1 c.args.unions.0.now c.args.unions.1.now c.args.named.0.now c.args.named.1.now in
    let lone = ap is_some (sym c.labelled.ensures) ∙ some-lent c.labelled.result ∙ sym c.is_some.ensures ∙ c.if-is_some.false in
    subst (λ (ds : List Difference). OnOk c.compare_label.result (c.compare_label.new.out.items ≡ c.args.out.now.items ++ ds))
    (sym (ap (λ (b : Bool). if b then [] else told) lone)) c.compare_label.ensures
