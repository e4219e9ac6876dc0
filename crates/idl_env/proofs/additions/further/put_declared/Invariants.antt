use Rattle.std.proofs.Common.{◌≡◌, ◌++◌, drop, map}
use Rattle.idl_env.specs.keys.Key.{key_digest}
use Rattle.idl_env.specs.declared.keys.key.Key.TheVariants.{Declared}
use Rattle.idl_env.proofs.additions.further.put_declared.Given as goal

-- those so far and those of the rest are all
abbrev pub invariant-loop-path : goal.invariant-loop-path
invariant-loop-path l =
    l.digests.items ++ map key_digest (map (λ p. Declared l.name p) (drop l.path-index l.paths)) ≡ l.fn.digests.items ++ map key_digest (map (λ p. Declared l.name p) l.paths)
