use Rattle.idl_changes.specs.Differences.{old_label_differences}
use Rattle.idl_changes.proofs.StepLemmas.{all-told, left-told}
use Rattle.idl_changes.proofs.unions.compare_old_labels.Goals as goal

pub loop-case-preserved : goal.loop-case-preserved
loop-case-preserved c =
    left-told (old_label_differences c.args.sides.now.0 c.args.sides.now.1 c.args.old.now c.args.new.now) c.cases-case-items.result.now c.args.old.now.1 c.cases-case-items.ensures
    c.loop-case.case-index c.case-item.result c.loop-case.out.items c.compare_old_label.new.out.items _ c.loop-case-test.true c.case-item.is c.in_ok-compare_old_label.ensures c.loop-case.invariant

pub returns : goal.returns
returns c =
    all-told (old_label_differences c.args.sides.now.0 c.args.sides.now.1 c.args.old.now c.args.new.now) c.cases-case-items.result.now c.args.old.now.1 c.cases-case-items.ensures
    c.loop-case.case-index c.loop-case.out.items _ c.loop-case-test.false c.loop-case.invariant
