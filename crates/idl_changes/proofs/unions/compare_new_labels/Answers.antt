use Rattle.idl_changes.specs.Differences.{new_label_differences}
use Rattle.idl_changes.proofs.StepLemmas.{all-told, left-told}
use Rattle.idl_changes.proofs.unions.compare_new_labels.Goals as goal

pub loop-case-preserved : goal.loop-case-preserved
loop-case-preserved c =
    left-told (new_label_differences c.args.sides.now.0 c.args.sides.now.1 c.args.old.now c.args.new.now) c.cases-case-items.result.now c.args.new.now.1 c.cases-case-items.ensures
    c.loop-case.case-index c.case-item.result c.loop-case.out.items c.compare_new_label.new.out.items _ c.loop-case-test.true c.case-item.is c.in_ok-compare_new_label.ensures c.loop-case.invariant

pub returns : goal.returns
returns c =
    all-told (new_label_differences c.args.sides.now.0 c.args.sides.now.1 c.args.old.now c.args.new.now) c.cases-case-items.result.now c.args.new.now.1 c.cases-case-items.ensures
    c.loop-case.case-index c.loop-case.out.items _ c.loop-case-test.false c.loop-case.invariant
