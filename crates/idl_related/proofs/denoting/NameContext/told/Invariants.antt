use Rattle.std.proofs.Common.{◌≤◌, length}
use Rattle.idl_related.proofs.denoting.NameContext.told.Given as goal

-- at most one for each of those before
abbrev pub invariant-told : goal.invariant-told
invariant-told l = length l.seconds.items ≤ l.number-index
