use Rattle.std.proofs.Common.{◌≡◌, length}
use Rattle.std.specs.List.{enumerate_from}
use Rattle.idl_unit.specs.Placing.{IsWithin, to_come}
use Rattle.idl_unit.specs.Units.{units_in}
use Rattle.idl_unit.proofs.cut.split.Given as goal

abbrev pub invariant-events : goal.invariant-events
invariant-events l = record {
  within : IsWithin l.cut;
  units : to_come l.cut l.events ≡ units_in (enumerate_from 0 l.expansion);
}

abbrev pub decreases-events : goal.decreases-events
decreases-events l = length l.events
