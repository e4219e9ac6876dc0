use Rattle.idl_tool.specs.make_rules.Make.{escaped_byte}
use Rattle.idl_tool.proofs.DepsLemmas.{pushed-all, pushed-next, pushed-none}
use Rattle.idl_tool.proofs.make_rules.make.push_name.Goals as goal

pub bytes-init : goal.bytes-init
bytes-init c = pushed-none escaped_byte c.args.name.now c.args.out.now.items

pub bytes-preserved : goal.bytes-preserved
bytes-preserved c =
    pushed-next escaped_byte c.args.name.now c.bytes.byte-index 0 c.args.out.now.items c.bytes.out.items c.push_byte.new.out.items c.bytes-test.true c.bytes.invariant c.in_ok-push_byte.ensures

pub returns : goal.returns
returns c = pushed-all escaped_byte c.args.name.now c.bytes.byte-index c.args.out.now.items c.bytes.out.items c.bytes-test.false c.bytes.invariant
