use Rattle.std.proofs.Common.{◌≤◌, length}
use Rattle.idl_related.proofs.about.About.declared_all.Given as goal

-- at most one for each of those before
abbrev pub invariant-told : goal.invariant-told
invariant-told l = length l.seconds.items ≤ l.entity-index
