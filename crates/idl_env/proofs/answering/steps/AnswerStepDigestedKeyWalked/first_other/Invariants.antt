use Rattle.std.proofs.Common.{◌≡◌, length}
use Rattle.idl_env.specs.SameAnswer.{answer_eq}
use Rattle.idl_env.specs.answering.Walked.{entries_outward}
use Rattle.idl_memo.specs.Runs.{first_other}
use Rattle.idl_env.proofs.answering.steps.AnswerStepDigestedKeyWalked.first_other.Given as goal

-- the answers so far are the bank's
abbrev pub invariant-scopes : goal.invariant-scopes
invariant-scopes g l = first_other answer_eq (g.B.Bank.at l.bank) (entries_outward l.initial.names) ≡ first_other answer_eq (g.B.Bank.at l.bank) (entries_outward l.names)

abbrev pub decreases-scopes : goal.decreases-scopes
decreases-scopes g l = length l.names
