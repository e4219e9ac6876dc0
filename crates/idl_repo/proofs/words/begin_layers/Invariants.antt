use Rattle.std.proofs.Common.{◌≡◌, ◌≤◌, ◌-◌, ◌++◌, drop, length}
use Rattle.idl_repo.specs.TypeCode.{layers_begin}
use Rattle.idl_repo.proofs.words.begin_layers.Given as goal

-- those of the last layers
abbrev pub invariant-loop-back : goal.invariant-loop-back
invariant-loop-back l = record {
  count : l.count ≡ length l.layers;
  within : l.back ≤ l.count;
  text : l.text.items ≡ l.fn.text.items ++ layers_begin (drop (l.count - l.back) l.layers);
}
