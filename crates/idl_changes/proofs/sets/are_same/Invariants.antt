use Rattle.std.proofs.Common.{◌≡◌, drop}
use Rattle.std.specs.Cmp.Lexicographic.{pointwise}
use Rattle.idl_changes.specs.Partners.{is_same_reference}
use Rattle.idl_changes.proofs.sets.are_same.Given as goal

-- those that are left are the same if all are
abbrev pub invariant-loop-place : goal.invariant-loop-place
invariant-loop-place l =
    pointwise (is_same_reference l.sides.0 l.sides.1) (drop l.place l.old) (drop l.place l.new)
    ≡ pointwise (is_same_reference l.sides.0 l.sides.1) l.old l.new
