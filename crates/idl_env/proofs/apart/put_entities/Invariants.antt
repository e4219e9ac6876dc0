use Rattle.std.proofs.Common.{◌≡◌, ◌++◌, drop, map}
use Rattle.idl_env.specs.Facts.{entity_key}
use Rattle.idl_env.specs.keys.Key.{key_digest}
use Rattle.idl_env.proofs.apart.put_entities.Given as goal

-- those so far and those of the rest are all
abbrev pub invariant-loop-path : goal.invariant-loop-path
invariant-loop-path l =
    l.digests.items ++ map key_digest (map entity_key (drop l.path-index l.paths)) ≡ l.fn.digests.items ++ map key_digest (map entity_key l.paths)
