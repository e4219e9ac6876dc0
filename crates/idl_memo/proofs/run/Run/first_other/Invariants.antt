use Rattle.std.proofs.Common.{◌≡◌, flat_map, length}
use Rattle.idl_memo.specs.Runs.{first_other}
use Rattle.idl_memo.proofs.run.Run.first_other.Given as goal

-- the answers so far are the bank's
abbrev pub invariant-steps : goal.invariant-steps
invariant-steps g l =
    let left = flat_map (g.B.Step.Step.logged l.head) l.left in
    first_other g.B.Answer.PartialEq.eq (g.B.Bank.at l.bank) l.self ≡ first_other g.B.Answer.PartialEq.eq (g.B.Bank.at l.bank) left

abbrev pub decreases-steps : goal.decreases-steps
decreases-steps g l = length l.left
