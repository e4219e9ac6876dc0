use Rattle.std.proofs.Common.{◌<◌, Option, ap, ◌∙◌}
use Rattle.std.proofs.lemmas.Result.{IfOk-weaker}
use Rattle.idl_env.specs.Facts.{World, after, after_step, count_in, unstopped, with_additions}
use Rattle.idl_env.specs.Held.{held}
use Rattle.idl_env.specs.Stamps.{Stamped, stamped, stamped_in}
use Rattle.idl_env.specs.Written.{adds_at, steps_at, writes_at}
use Rattle.idl_env.specs.declared.answering.answer.Answer.{Answer}
use Rattle.idl_env.specs.declared.keys.key.Key.{Key}
use Rattle.idl_env.proofs.AnswerLaws.StateLemmas.{count-over}
use Rattle.idl_env.proofs.StampLemmas.{stamped-twice}
use Rattle.idl_env.proofs.answering.state.State.add.Goals as goal

pub take-requires : goal.take-requires
take-requires c = λ key.
    let at = ap (λ (a : Stamped). a.at) c.count_one.ensures in
    let before = (stamped_in c.count_one.new.self).at in
    let same = ap (λ (w : World). count_in (w.answers key)) c.in_ok-add_all.ensures.world in
    let bound : count_in (before key) < 18446744073709551615 = rw (ap (λ (answers : Key → Option Answer). count_in (answers key)) at) (c.requires.counts key) in
    rw same (count-over (unstopped before c.args.facts.now.additions) key (before key) 18446744073709551615 bound)

pub returns-clause-world : goal.returns-clause-world
returns-clause-world c =
    let f = c.args.facts.now in
    let w = held c.args.self.now in
    let at = ap (λ (a : Stamped). a.at) c.count_one.ensures in
    IfOk-weaker c.take.result _ _
    (λ _ h.
    h
    ∙ (λ i. after_step (c.in_ok-add_all.ensures.world i) (c.step.ensures i))
    ∙ (λ i. after (record w { answers = at i }) f))
    c.take.ensures.world

pub returns-clause-stamps : goal.returns-clause-stamps
returns-clause-stamps c =
    let f = c.args.facts.now in
    let w = held c.args.self.now in
    let counted = stamped_in c.count_one.new.self in
    let at = ap (λ (a : Stamped). a.at) c.count_one.ensures in
    let stamps = ap (λ (a : Stamped). a.stamps) c.count_one.ensures in
    let w1 : World = record w { answers = counted.at } in
    IfOk-weaker c.take.result _ _
    (λ _ h.
    h
    ∙ (λ i. stamped (steps_at (c.in_ok-add_all.ensures.world i) (c.step.ensures i)) (c.in_ok-add_all.ensures.stamps i))
    ∙ stamped-twice (adds_at w1 f) (steps_at (with_additions f.additions w1) f.step) counted.stamps
    ∙ (λ i. stamped (writes_at (record w { answers = at i }) f) (stamps i)))
    c.take.ensures.stamps
