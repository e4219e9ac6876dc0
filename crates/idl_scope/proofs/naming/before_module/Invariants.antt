use Rattle.std.proofs.Common.{◌≡◌, ◌+◌, length}
use Rattle.idl_scope.specs.Lookup.{before_module}
use Rattle.idl_scope.proofs.naming.before_module.Given as goal

-- what was passed and what there is in the rest is what there is
abbrev pub invariant-loop-index : goal.invariant-loop-index
invariant-loop-index l = record {
  passed : l.index + length l.rest ≡ length l.scopes;
  count : l.index + before_module l.rest ≡ before_module l.scopes;
}
