use Rattle.std.proofs.Common.{◌≡◌, drop}
use Rattle.idl_tool.specs.Checked.{are_faults}
use Rattle.idl_tool.proofs.check.ending_of.Given as goal

-- those before have no fault
abbrev pub invariant-roots : goal.invariant-roots
invariant-roots l = are_faults l.counts_warnings (drop l.root-index l.compiled) ≡ are_faults l.counts_warnings l.compiled
