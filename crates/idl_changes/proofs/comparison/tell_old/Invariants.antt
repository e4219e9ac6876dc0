use Rattle.std.proofs.Common.{ℕ, ◌≡◌, ◌++◌, drop, flat_map}
use Rattle.std.specs.List.{enumerate_from}
use Rattle.idl_changes.specs.Changes.{told_old}
use Rattle.idl_repo.specs.declared.details.row_tree.RowTree.{RowTree}
use Rattle.idl_changes.proofs.comparison.tell_old.Given as goal

-- those that are left come behind
abbrev pub invariant-loop-place : goal.invariant-loop-place
invariant-loop-place l =
    let told = λ (p : ℕ × RowTree). told_old l.sides.0 l.sides.1 p.0 p.1 in
    l.out.items ++ flat_map told (enumerate_from l.place (drop l.place l.sides.0))
    ≡ l.fn.out.items ++ flat_map told (enumerate_from 0 l.sides.0)
