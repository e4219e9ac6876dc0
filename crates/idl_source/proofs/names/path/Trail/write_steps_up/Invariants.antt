use Rattle.std.proofs.Common.{◌≡◌, ◌∷◌, ◌++◌, [], replicate}
use Rattle.idl_source.proofs.names.path.Trail.write_steps_up.Given as goal

abbrev pub invariant-loop : goal.invariant-loop
invariant-loop l = record {
  up : l.self.up ≡ l.fn.self.up;
  down : l.self.down ≡ replicate l.counter (46 ∷ 46 ∷ []) ++ l.fn.self.down;
}
