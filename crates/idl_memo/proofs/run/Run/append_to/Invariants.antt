use Rattle.std.proofs.Common.{◌≡◌, ◌++◌, flat_map, length}
use Rattle.idl_memo.proofs.run.Run.append_to.Given as goal

-- the entries of the steps so far are there, and the others are left
abbrev pub invariant-steps : goal.invariant-steps
invariant-steps g l =
    let left = flat_map (g.B.Step.Step.logged l.head) l.left in
    l.entries.items ++ left ≡ l.fn.entries.items ++ l.self

abbrev pub decreases-steps : goal.decreases-steps
decreases-steps g l = length l.left
