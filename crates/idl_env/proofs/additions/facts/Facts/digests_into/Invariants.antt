use Rattle.std.proofs.Common.{◌≡◌, ◌++◌, drop, map}
use Rattle.idl_env.specs.Facts.{key_of}
use Rattle.idl_env.specs.keys.Key.{key_digest}
use Rattle.idl_env.proofs.additions.facts.Facts.digests_into.Given as goal

-- those so far and those of the rest are all
abbrev pub invariant-loop-index : goal.invariant-loop-index
invariant-loop-index l =
    l.digests.items ++ map (λ a. key_digest (key_of a)) (drop l.index l.self.additions) ≡ l.fn.digests.items ++ map (λ a. key_digest (key_of a)) l.self.additions
