use Rattle.std.proofs.Common.{◌≡◌, flat_map, take}
use Rattle.idl_repo.specs.details.Tree.{cases_of}
use Rattle.idl_env.specs.Facts.{answers}
use Rattle.idl_repo.proofs.details.type_codes.union_of.Given as goal

-- those before
abbrev pub invariant-loop-member : goal.invariant-loop-member
invariant-loop-member l = l.cases.items ≡ flat_map (cases_of (answers l.env)) (take l.member-index l.members)
