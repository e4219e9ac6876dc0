use Rattle.std.proofs.Common.{◌≤◌, drop, length, map, reverse}
use Rattle.idl_root.specs.Named.{AreNumbersIn, closings_in, ends_of, named_as}
use Rattle.idl_root.proofs.compiling.naming.ends_of.Given as goal

-- those of the units from here on, the last first, and the closings among these, the innermost last
abbrev pub invariant-back : goal.invariant-back
invariant-back l =
    let all = map named_as l.units in
    record {
      within : l.index ≤ length l.units;
      ends : AreNumbersIn all (reverse l.ends.items) (ends_of (drop l.index all));
      closings : AreNumbersIn all (reverse l.closings.items) (closings_in (drop l.index all));
    }

abbrev pub decreases-back : goal.decreases-back
decreases-back l = l.index
