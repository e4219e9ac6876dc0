use Rattle.std.proofs.Common.{◌≡◌, ◌++◌, length, reverse}
use Rattle.idl_map.specs.Items.{items_of}
use Rattle.idl_map.proofs.list.SharedList.to_vec.Given as goal

-- those that are left, and those so far the other way round, are all
abbrev pub invariant-loop-link : goal.invariant-loop-link
invariant-loop-link g l = items_of l.link ++ reverse l.items.items ≡ l.self

abbrev pub decreases-loop-link : goal.decreases-loop-link
decreases-loop-link g l = length (items_of l.link)
