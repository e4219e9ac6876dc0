use Rattle.std.proofs.Common.{◌≡◌, ◌++◌, drop}
use Rattle.idl_changes.specs.Differences.{new_references}
use Rattle.idl_changes.proofs.sets.push_all_new.Given as goal

-- those that are left come behind
abbrev pub invariant-loop-reference : goal.invariant-loop-reference
invariant-loop-reference l =
    l.out.items ++ new_references l.sides.0 l.sides.1 l.part l.old (drop l.reference-index l.new)
    ≡ l.fn.out.items ++ new_references l.sides.0 l.sides.1 l.part l.old l.new
