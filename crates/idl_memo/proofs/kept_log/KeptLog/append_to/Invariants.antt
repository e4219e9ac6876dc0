use Rattle.std.proofs.Common.{◌≡◌, ◌++◌}
use Rattle.idl_memo.proofs.kept_log.KeptLog.append_to.Given as goal

-- the entries so far are there, and the others are left
abbrev pub invariant-parts : goal.invariant-parts
invariant-parts g l = l.entries.items ++ l.left.entries ≡ l.fn.entries.items ++ l.self

abbrev pub decreases-parts : goal.decreases-parts
decreases-parts g l = l.left.count
