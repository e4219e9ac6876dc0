use Rattle.std.proofs.Common.{arith, sym, ap, ◌∙◌}
use Rattle.idl_env.specs.Stamps.{Kept, answer_in, stamped_in}
use Rattle.idl_env.proofs.AnswerLaws.OthersLemmas.{among_others-digest, lookup-others}
use Rattle.idl_env.proofs.answering.answers.Answers.get_at.Goals as goal

pub returns : goal.returns
returns g c =
    let key = g.L.Lent.key c.args.key.now in
    let kept = c.self.inside in
    let among = among_others-digest key (grind (arith, c.key_digest-digest.ensures, c.if-digest-le-LAST_APART.false)) in
    let same = lookup-others key kept.cursor kept.prefix kept.others among in
    c.answer_in.ensures ∙ ap answer_in (c.get_at.ensures ∙ sym same) ∙ ap (λ (k : Kept). (stamped_in k).at key) c.self.view_is
