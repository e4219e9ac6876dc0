use Rattle.std.proofs.Common.{◌≡◌, drop, map}
use Rattle.std.specs.List.{list_any}
use Rattle.std.specs.Prelude.{is_some}
use Rattle.idl_env.specs.Stamps.{stamped_in}
use Rattle.idl_env.specs.Facts.{entity_in}
use Rattle.idl_env.specs.declared.keys.key.Key.TheVariants.{Declared}
use Rattle.idl_env.proofs.additions.further.declared_in_any.Given as goal

-- what holds of one of all is asked of the rest
abbrev pub invariant-loop-path : goal.invariant-loop-path
invariant-loop-path l =
    list_any (λ k. is_some (entity_in ((stamped_in l.answers).at k))) (map (λ p. Declared l.name p) (drop l.path-index l.paths))
    ≡ list_any (λ k. is_some (entity_in ((stamped_in l.answers).at k))) (map (λ p. Declared l.name p) l.paths)
