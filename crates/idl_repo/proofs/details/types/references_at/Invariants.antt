use Rattle.std.proofs.Common.{◌≡◌, map, take}
use Rattle.idl_repo.specs.details.Tree.{reference_over}
use Rattle.idl_env.specs.Facts.{answers}
use Rattle.idl_repo.proofs.details.types.references_at.Given as goal

-- those before
abbrev pub invariant-loop-path : goal.invariant-loop-path
invariant-loop-path l = l.references.items ≡ map (reference_over (answers l.env)) (take l.path-index l.paths)
