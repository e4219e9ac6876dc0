use Rattle.std.proofs.Common.{◌≡◌, drop}
use Rattle.idl_root.specs.Held.{held, to_come, with_gathered}
use Rattle.idl_root.proofs.compiling.judging.RootState.with_all.Given as goal

abbrev pub invariant-loop-unit : goal.invariant-loop-unit
invariant-loop-unit l = to_come (with_gathered l.env l.gathered) (drop l.unit-index l.units) ≡ to_come (held l.fn.self) l.units
