use Rattle.std.proofs.Common.{◌≡◌, sym, ap, ◌∙◌, suc, ◌+◌, ◌-◌, ◌∷◌, drop, arith, subst}
use Rattle.idl_env.specs.Facts.{answer_of, key_of}
use Rattle.idl_env.specs.Held.{IsAmongOthers}
use Rattle.idl_env.specs.Stamps.{stamped_in, stamped_over, with_stamped}
use Rattle.idl_env.proofs.AnswerLaws.OthersLemmas.{key_of-others}
use Rattle.idl_env.proofs.AnswerLaws.PlaceLemmas.{drop-at}
use Rattle.idl_env.proofs.StampLemmas.{stamped_over-cons}
use Rattle.idl_env.proofs.answering.state.put_all.Goals as goal

pub insert-requires : goal.insert-requires
insert-requires c = subst IsAmongOthers (sym c.in_ok-key.ensures) (key_of-others c.in-Some.addition.now)

pub loop-back-preserved : goal.loop-back-preserved
loop-back-preserved c =
    let additions = c.args.facts.now.additions in
    let count = c.len-count.result in
    let back = c.loop-back.back in
    let one = c.in-Some.addition.now in
    let old = stamped_in c.loop-back.answers in
    let first = stamped_in c.args.answers.now in
    let before : count - (back + 1) ≡ count - 1 - back = omega arith in
    let behind : suc (count - 1 - back) ≡ count - back = omega arith in
    let key = c.in_ok-key.ensures in
    let answer : c.in_ok-answer.answer ≡ answer_of one = c.in_ok-answer.ensures ∙ ap answer_of c.addition.ensures in
    let here = ap (λ j. drop j additions) before ∙ drop-at additions (count - 1 - back) one (sym c.in-Some.ensures) ∙ ap (λ j. one ∷ drop j additions) behind in
    record {
      count = c.loop-back.invariant.count;
      within = omega arith;
      answers =
          c.in_ok-insert.ensures
          ∙ (λ i. with_stamped (key i) (answer i) old)
          ∙ ap (with_stamped (key_of one) (answer_of one)) c.loop-back.invariant.answers
          ∙ sym (stamped_over-cons one (drop (count - back) additions) first)
          ∙ ap (λ l. stamped_over l first) (sym here);
    }
