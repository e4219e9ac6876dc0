use Rattle.std.proofs.Common.{◌≡◌, map, take}
use Rattle.idl_repo.specs.details.Tree.{parameter_over}
use Rattle.idl_env.specs.Facts.{answers}
use Rattle.idl_repo.proofs.details.rows.parameters_of.Given as goal

-- those before
abbrev pub invariant-loop-member : goal.invariant-loop-member
invariant-loop-member l = l.trees.items ≡ map (parameter_over (answers l.env)) (take l.member-index l.members)
