use Rattle.std.proofs.Common.{◌≡◌}
use Rattle.idl_memo.specs.Runs.{first_other}
use Rattle.idl_memo.proofs.kept_log.KeptLog.first_other.Given as goal

-- the answers so far are the bank's
abbrev pub invariant-parts : goal.invariant-parts
invariant-parts g l = first_other g.B.Answer.PartialEq.eq (g.B.Bank.at l.bank) l.self ≡ first_other g.B.Answer.PartialEq.eq (g.B.Bank.at l.bank) l.left.entries

abbrev pub decreases-parts : goal.decreases-parts
decreases-parts g l = l.left.count
