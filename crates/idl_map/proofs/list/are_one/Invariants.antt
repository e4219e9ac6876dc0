use Rattle.std.proofs.Common.{◌≡◌, length}
use Rattle.std.specs.Cmp.Lexicographic.{pointwise}
use Rattle.idl_map.specs.Items.{items_of}
use Rattle.idl_map.proofs.list.are_one.Given as goal

-- those that are left of the two are one where all are
abbrev pub invariant-loop-one : goal.invariant-loop-one
invariant-loop-one g l = pointwise g.T.PartialEq.eq (items_of l.one) (items_of l.two) ≡ pointwise g.T.PartialEq.eq (items_of l.first) (items_of l.second)

abbrev pub decreases-loop-one : goal.decreases-loop-one
decreases-loop-one g l = length (items_of l.one)
