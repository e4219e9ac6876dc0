use Rattle.std.proofs.Common.{◌≡◌, ◌++◌, drop, flat_map}
use Rattle.idl_changes.specs.Differences.{new_label_differences}
use Rattle.idl_changes.proofs.unions.compare_new_labels.Given as goal

-- those that are left come behind
abbrev pub invariant-loop-case : goal.invariant-loop-case
invariant-loop-case l =
    l.out.items
    ++ flat_map (new_label_differences l.sides.0 l.sides.1 l.old l.new) (drop l.case-index l.new.1)
    ≡ l.fn.out.items ++ flat_map (new_label_differences l.sides.0 l.sides.1 l.old l.new) l.new.1
