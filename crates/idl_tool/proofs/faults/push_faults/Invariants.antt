use Rattle.std.proofs.Common.{take}
use Rattle.idl_tool.specs.Messages.{AreLines, IsBehind, IsFaultMessage}
use Rattle.idl_tool.proofs.faults.push_faults.Given as goal

-- those of the troubles before
abbrev pub invariant-faults : goal.invariant-faults
invariant-faults l = IsBehind (AreLines IsFaultMessage (take l.fault-index l.faults)) l.fn.out.items l.out.items
