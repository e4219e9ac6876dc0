use Rattle.std.proofs.Common.{◌≡◌, ◌+◌, length}
use Rattle.idl_memo.proofs.dated.count.Given as goal

-- those so far are counted
abbrev pub invariant-entries : goal.invariant-entries
invariant-entries g l = l.count + length l.left ≡ length l.fn.entries

abbrev pub decreases-entries : goal.decreases-entries
decreases-entries g l = length l.left
