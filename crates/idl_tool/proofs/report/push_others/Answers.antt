use Rattle.idl_tool.specs.Report.{other_byte}
use Rattle.idl_tool.proofs.DepsLemmas.{pushed-all, pushed-next, pushed-none}
use Rattle.idl_tool.proofs.report.push_others.Goals as goal

pub bytes-init : goal.bytes-init
bytes-init c = pushed-none (other_byte c.args.is_line) c.args.bytes.now c.args.out.now.items

pub bytes-preserved : goal.bytes-preserved
bytes-preserved c =
    pushed-next (other_byte c.args.is_line) c.args.bytes.now c.bytes.b-index 0 c.args.out.now.items c.bytes.out.items c.push_other.new.out.items c.bytes-test.true c.bytes.invariant c.in_ok-push_other.ensures

pub returns : goal.returns
returns c = pushed-all (other_byte c.args.is_line) c.args.bytes.now c.bytes.b-index c.args.out.now.items c.bytes.out.items c.bytes-test.false c.bytes.invariant
