use Rattle.std.proofs.Common.{sym, ap, ◌∙◌}
use Rattle.std.proofs.lemmas.Result.{IfOk-weaker}
use Rattle.idl_env.specs.Stamps.{stamped_in, stamped_over}
use Rattle.idl_env.proofs.StoppedLemmas.{unstopped_all}
use Rattle.idl_env.proofs.answering.state.put_own.Goals as goal

pub returns-clause-answers : goal.returns-clause-answers
returns-clause-answers c =
    let kept = stamped_in c.args.answers.now in
    let all = unstopped_all kept.at c.args.facts.now.additions (c.may_be_stopped.ensures c.if-may_be_stopped.false) in
    IfOk-weaker c.put_taken.result _ _ (λ _ h. h ∙ ap (λ l. stamped_over l kept) (sym all)) c.put_taken.ensures.answers
