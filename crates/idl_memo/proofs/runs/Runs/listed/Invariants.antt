use Rattle.std.proofs.Common.{◌≡◌, ◌++◌, length, reverse}
use Rattle.idl_memo.proofs.runs.Runs.listed.Given as goal

-- those that are left are in front of the list
abbrev pub invariant-steps : goal.invariant-steps
invariant-steps g l = l.first.items ++ reverse l.list ≡ l.fn.first.items ++ reverse l.fn.list

abbrev pub decreases-steps : goal.decreases-steps
decreases-steps g l = length l.first.items
