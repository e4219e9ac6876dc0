use Rattle.idl_tool.specs.Report.{gap_below}
use Rattle.idl_tool.proofs.DepsLemmas.{pushed-all, pushed-next, pushed-none}
use Rattle.idl_tool.proofs.report.push_gap.Goals as goal

pub bytes-init : goal.bytes-init
bytes-init c = pushed-none gap_below c.args.shown.now c.args.out.now.items

pub bytes-preserved : goal.bytes-preserved
bytes-preserved c =
    pushed-next gap_below c.args.shown.now c.bytes.b-index 0 c.args.out.now.items c.bytes.out.items c.push_gap_below.new.out.items c.bytes-test.true c.bytes.invariant c.in_ok-push_gap_below.ensures

pub returns : goal.returns
returns c = pushed-all gap_below c.args.shown.now c.bytes.b-index c.args.out.now.items c.bytes.out.items c.bytes-test.false c.bytes.invariant
