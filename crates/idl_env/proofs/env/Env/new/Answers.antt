use Rattle.std.proofs.Common.{length, sym, ap, ◌∙◌, arith}
use Rattle.idl_env.specs.Facts.{world}
use Rattle.idl_env.specs.Held.{held}
use Rattle.idl_env.specs.Stamps.{stamped_in, stamps_of}
use Rattle.idl_env.specs.Turns.{turns_for}
use Rattle.idl_env.specs.declared.answering.state.State.{State}
use Rattle.idl_env.proofs.AnswerLaws.CountLemmas.{world-none}
use Rattle.idl_env.proofs.env.Env.new.Goals as goal

pub invariant_of-result : goal.invariant_of-result
invariant_of-result c = (
  omega (arith, ap length c.new-4.ensures, ap turns_for c.new-4.ensures),
  (
    ap held c.in_ok-state.ensures.ok ∙ c.in_ok-new.ensures.world ∙ sym (ap world c.new-4.ensures ∙ world-none),
    ap (λ (s : State). (stamped_in s.answers).stamps) c.in_ok-state.ensures.ok ∙ c.in_ok-new.ensures.stamps ∙ sym (ap stamps_of c.new-4.ensures),
  ),
)
