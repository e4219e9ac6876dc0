use Rattle.std.proofs.Common.{◌≡◌, ◌-◌, ◌≤◌}
use Rattle.idl_scope.specs.Lookup.{declares_at}
use Rattle.idl_scope.proofs.naming.declares_at.Given as goal

-- it is asked of the rest
abbrev pub invariant-loop-passed : goal.invariant-loop-passed
invariant-loop-passed l = record {
  within : l._passed ≤ l.inside;
  rest : declares_at l.rest (l.inside - l._passed) l.first ≡ declares_at l.scopes l.inside l.first;
}
