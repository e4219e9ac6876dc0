-- A step more is in front, and the entries for which it stands.
use Rattle.std.proofs.Common.{◌++◌, ◌∷◌, ◌<◌, [], arith, drop, flat_map, length, length-append, sym, ap, ◌∙◌}
use Rattle.idl_memo.proofs.RunLaws.{at-some, behind-step, more-entries, wide}
use Rattle.std.proofs.lemmas.Grind.{common_steps}
use Rattle.idl_memo.proofs.runs.Runs.front.Goals as goal

pub steps-preserved : goal.steps-preserved
steps-preserved g c =
    let f = g.B.Step.Step.logged c.args.head.now in
    let first = c.steps.first.items in
    let rest = c.steps.rest.now in
    let width = c.unwrap_or-width.result in
    let step = c.in-Some-2.step in
    let inv = c.steps.invariant in
    let begins = at-some c.in_ok-step.field-0 step _ c.in-Some-2.is c.in_ok-step.ensures in
    let some : 0 < width = omega (arith, c.steps-test.true) in
    let here = behind-step f rest step width (wide c.width.result width _ c.unwrap_or-width.ensures some c.width.ensures step) begins in
    let pushed = ap length c.in_ok-push.ensures.items ∙ length-append first (step ∷ []) in
    record {
      whole = more-entries f c.args.entries.now first rest step (drop width rest) inv.whole here.0 ∙ ap (λ l. flat_map f l ++ drop width rest) (sym c.in_ok-push.ensures.items) ∙ ap (λ b. flat_map f c.push.new.self.items ++ b) (sym c.past-rest.ensures.entries);
      count = omega (arith, inv.count, c.past-rest.ensures.fewer, pushed, c.steps-test.true);
    }

pub steps-init : goal.steps-init
steps-init g c = grind (arith, common_steps)

pub returns-in-Some-clause-whole : goal.returns-in-Some-clause-whole
returns-in-Some-clause-whole g c = grind (arith, common_steps)

pub returns-in-Some-clause-count : goal.returns-in-Some-clause-count
returns-in-Some-clause-count g c = grind (arith, common_steps)

pub returns-clause-whole : goal.returns-clause-whole
returns-clause-whole g c = grind (arith, common_steps)

pub returns-clause-count : goal.returns-clause-count
returns-clause-count g c = grind (arith, common_steps)

pub returns-in_default-2-clause-whole : goal.returns-in_default-2-clause-whole
returns-in_default-2-clause-whole g c = grind (arith, common_steps)

pub returns-in_default-2-clause-count : goal.returns-in_default-2-clause-count
returns-in_default-2-clause-count g c = grind (arith, common_steps)
