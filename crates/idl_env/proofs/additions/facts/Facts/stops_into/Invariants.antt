use Rattle.std.proofs.Common.{◌≡◌, ◌++◌, drop, map}
use Rattle.std.specs.Prelude.{flat_map}
use Rattle.idl_env.specs.Facts.{stops_of}
use Rattle.idl_env.specs.keys.Key.{key_digest}
use Rattle.idl_env.proofs.additions.facts.Facts.stops_into.Given as goal

-- those so far and those of the rest are all
abbrev pub invariant-loop-index : goal.invariant-loop-index
invariant-loop-index l =
    l.digests.items ++ map key_digest (flat_map stops_of (drop l.index l.self.additions)) ≡ l.fn.digests.items ++ map key_digest (flat_map stops_of l.self.additions)
