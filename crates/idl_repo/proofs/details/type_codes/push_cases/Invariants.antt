use Rattle.std.proofs.Common.{◌≡◌, ◌++◌, map, take}
use Rattle.idl_repo.specs.details.Tree.{case_over}
use Rattle.idl_env.specs.Facts.{answers}
use Rattle.idl_repo.proofs.details.type_codes.push_cases.Given as goal

-- those before
abbrev pub invariant-loop-label : goal.invariant-loop-label
invariant-loop-label l = l.cases.items ≡ l.fn.cases.items ++ map (case_over (answers l.env) l.member) (take l.label-index l.label-items)
