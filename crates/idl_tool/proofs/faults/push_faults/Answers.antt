use Rattle.std.proofs.Common.{subst, List}
use Rattle.idl_driver.specs.declared.failure.CompileFault.{CompileFault}
use Rattle.std.proofs.lemmas.List.{take_all}
use Rattle.idl_tool.specs.Messages.{IsFaultMessage, AreLines, IsBehind}
use Rattle.idl_tool.proofs.FaultLemmas.{lines-next, no-lines}
use Rattle.idl_tool.proofs.faults.push_faults.Goals as goal

pub faults-init : goal.faults-init
faults-init c = no-lines IsFaultMessage c.args.out.now.items

pub faults-preserved : goal.faults-preserved
faults-preserved c =
    let pushed = c.in_ok-push_fault.ensures in
    lines-next IsFaultMessage c.args.faults.now c.faults.fault-index c.fault-item.result pushed.0 c.args.out.now.items c.faults.out.items c.push_fault.new.out.items c.faults-test.true c.faults.invariant
    (subst (λ (f : CompileFault). IsFaultMessage f pushed.0) c.fault-item.is pushed.1) pushed.2

pub returns : goal.returns
returns c =
    subst (λ (fs : List CompileFault). IsBehind (AreLines IsFaultMessage fs) c.args.out.now.items c.faults.out.items)
    (take_all c.faults.fault-index c.args.faults.now c.faults-test.false) c.faults.invariant
