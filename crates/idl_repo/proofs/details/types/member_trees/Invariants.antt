use Rattle.std.proofs.Common.{◌≡◌, map, take}
use Rattle.idl_repo.specs.details.Tree.{member_over}
use Rattle.idl_env.specs.Facts.{answers}
use Rattle.idl_repo.proofs.details.types.member_trees.Given as goal

-- those before
abbrev pub invariant-loop-member : goal.invariant-loop-member
invariant-loop-member l = l.trees.items ≡ map (member_over (answers l.env)) (take l.member-index l.members)
