use Rattle.std.proofs.Common.{◌≡◌, ◌≤◌, ◌-◌, ◌++◌, drop, length}
use Rattle.idl_entity.specs.DataType.{arrays_of}
use Rattle.idl_entity.proofs.data_type.DataType.in_arrays.Given as goal

-- those of the last lengths
abbrev pub invariant-loop-back : goal.invariant-loop-back
invariant-loop-back l = record {
  count : l.count ≡ length l.lengths;
  within : l.back ≤ l.count;
  layers : l.layers.items ≡ l.self.layers ++ arrays_of (drop (l.count - l.back) l.lengths);
}
