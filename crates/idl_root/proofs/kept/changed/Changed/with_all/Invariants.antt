use Rattle.std.proofs.Common.{◌≡◌, ◌++◌, drop}
use Rattle.idl_root.proofs.kept.changed.Changed.with_all.Given as goal

-- those so far and the rest are all
abbrev pub invariant-loop-digest : goal.invariant-loop-digest
invariant-loop-digest l = l.changed ++ drop l.digest-index l.digests ≡ l.fn.self ++ l.digests
