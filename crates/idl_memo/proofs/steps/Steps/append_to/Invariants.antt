use Rattle.std.proofs.Common.{◌≡◌, ◌++◌, length}
use Rattle.idl_memo.proofs.steps.Steps.append_to.Given as goal

-- those so far are there, and the others are left
abbrev pub invariant-steps : goal.invariant-steps
invariant-steps g l = l.others.items ++ l.behind ≡ l.fn.others.items ++ l.self

abbrev pub decreases-steps : goal.decreases-steps
decreases-steps g l = length l.behind
