use Rattle.std.proofs.Common.{◌≡◌, ◌++◌, drop, map}
use Rattle.idl_env.specs.Differing.{unlike}
use Rattle.idl_env.specs.keys.Key.{key_digest}
use Rattle.idl_env.proofs.additions.facts.Facts.unlike_into.Given as goal

-- those so far and those of the rest are all
abbrev pub invariant-loop-index : goal.invariant-loop-index
invariant-loop-index l =
    l.digests.items ++ map key_digest (unlike (drop l.index l.self.additions) l.others.additions) ≡ l.fn.digests.items ++ map key_digest (unlike l.self.additions l.others.additions)
