-- A step more is taken, and the entries for which it stands.
use Rattle.std.proofs.Common.{◌≡◌, ℕ, suc, ◌+◌, ◌++◌, arith, drop, flat_map, sym, take, ap, ◌∙◌}
use Rattle.idl_memo.proofs.RunLaws.{above-zero, behind-step, more-entries, next-taken, wide}
use Rattle.idl_memo.proofs.runs.agreed.Goals as goal

pub steps-preserved : goal.steps-preserved
steps-preserved g c =
    let f = g.B.Step.Step.logged c.args.head.now in
    let n = c.steps.count in
    let steps = c.args.steps.now in
    let rest = c.steps.rest.now in
    let width = c.unwrap_or-width.result in
    let some = above-zero width c.if-width-eq0.false in
    let step = c.in-Some.step.now in
    let inv = c.steps.invariant in
    let here = behind-step f rest step width (wide c.width.result width _ c.unwrap_or-width.ensures some c.width.ensures step) (c.is_first.ensures c.if-not-is_first.false) in
    let next = next-taken n steps step c.in-Some.others (inv.behind ∙ c.in-Some.ensures.some) in
    let one : n + 1 ≡ suc n = omega arith in
    let taken = ap (λ (m : ℕ). take m steps) one ∙ next.0 in
    record {
      whole = more-entries f c.args.entries.now (take n steps) rest step (drop width rest) inv.whole here.0 ∙ ap (λ l. flat_map f l ++ drop width rest) (sym taken) ∙ ap (λ b. flat_map f (take (n + 1) steps) ++ b) (sym c.past-rest.ensures.entries);
      count = omega (arith, inv.count, c.past-rest.ensures.fewer, some);
      behind = ap (λ (m : ℕ). drop m steps) one ∙ next.1;
    }
