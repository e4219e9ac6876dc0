use Rattle.std.proofs.Common.{◌≡◌, ◌++◌, drop, map}
use Rattle.idl_root.specs.Held.{held, to_come, with_gathered}
use Rattle.idl_root.specs.Named.{named_after, named_as}
use Rattle.idl_root.proofs.compiling.judging.RootState.with_all_named.Given as goal

abbrev pub invariant-loop-unit : goal.invariant-loop-unit
invariant-loop-unit l = record {
  judging : to_come (with_gathered l.env l.gathered) (drop l.unit-index l.units) ≡ to_come (held l.fn.self) l.units;
  units : map named_as l.named.items ++ named_after l.env (drop l.unit-index l.units) ≡ named_after l.fn.self.env l.units;
}
