use Rattle.std.proofs.Common.{◌≡◌, length}
use Rattle.idl_map.specs.Items.{items_of}
use Rattle.idl_map.specs.Order.{backwards_cmp}
use Rattle.idl_map.proofs.list.order_of.Given as goal

-- those that are left of the two come in the order in which all do
abbrev pub invariant-loop-one : goal.invariant-loop-one
invariant-loop-one g l = backwards_cmp g.T.Ord.cmp (items_of l.one) (items_of l.two) ≡ backwards_cmp g.T.Ord.cmp (items_of l.first) (items_of l.second)

abbrev pub decreases-loop-one : goal.decreases-loop-one
decreases-loop-one g l = length (items_of l.one)
