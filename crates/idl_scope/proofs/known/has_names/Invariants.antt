use Rattle.std.proofs.Common.{◌≡◌, ◌+◌, length}
use Rattle.idl_scope.proofs.known.has_names.Given as goal

-- so many are gone over
abbrev pub invariant-loop-name : goal.invariant-loop-name
invariant-loop-name l = length l.names + l._name ≡ length l.path
