use Rattle.std.proofs.Common.{sym, ap, ◌∙◌}
use Rattle.std.proofs.lemmas.Result.{IfOk-weaker}
use Rattle.idl_env.specs.Stamps.{stamped_in, stamped_over}
use Rattle.idl_env.proofs.StoppedLemmas.{unstopped_all}
use Rattle.idl_env.proofs.answering.state.put_unstopped.Goals as goal

pub returns-then-not-may_be_stopped : goal.returns-then-not-may_be_stopped
returns-then-not-may_be_stopped c =
    let kept = stamped_in c.args.answers.now in
    let all = unstopped_all kept.at c.args.facts.now.additions (c.may_be_stopped.ensures c.if-not-may_be_stopped.true) in
    IfOk-weaker c.put_all.result _ _ (λ _ h. h ∙ ap (λ l. stamped_over l kept) (sym all)) c.put_all.ensures

pub returns : goal.returns
returns c = c.in_ok-put_few.ensures.answers ∙ ap (λ l. stamped_over l (stamped_in c.args.answers.now)) c.in_ok-left.ensures
