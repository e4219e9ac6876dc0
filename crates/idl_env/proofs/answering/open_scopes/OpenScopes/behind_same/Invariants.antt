use Rattle.std.proofs.Common.{◌≡◌, IsTrue, length}
use Rattle.std.specs.Cmp.Lexicographic.{pointwise, slice_cmp}
use Rattle.idl_env.specs.answering.OpenScopes.{BeginAtOnePath}
use Rattle.idl_env.specs.answering.Scope.{scope_eq}
use Rattle.idl_env.specs.contracts.answering.answer.ScopeOrd.TheImpl.{ghosts as scopes}
use Rattle.idl_env.proofs.answering.open_scopes.OpenScopes.behind_same.Given as goal

-- what is left of both is the same, and comes in the same order, as they are and do
abbrev pub invariant-scopes : goal.invariant-scopes
invariant-scopes l = record {
  same : pointwise scope_eq l.mine l.theirs ≡ pointwise scope_eq l.self l.other;
  order : slice_cmp scopes.cmp l.mine l.theirs ≡ slice_cmp scopes.cmp l.self l.other;
  path : IsTrue l.is_one_path → BeginAtOnePath l.mine l.theirs;
}

abbrev pub decreases-scopes : goal.decreases-scopes
decreases-scopes l = length l.mine
