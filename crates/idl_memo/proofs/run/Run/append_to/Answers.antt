-- Step by step: what is left goes behind.
use Rattle.std.proofs.Common.{◌++◌, append_assoc, append-nil, refl, sym, ap, flat_map, ◌∙◌}
use Rattle.idl_memo.proofs.run.Run.append_to.Goals as goal

pub steps-init : goal.steps-init
steps-init g c = ap (λ l. c.args.entries.now.items ++ l) (sym c.lent-steps.ensures)

pub steps-preserved : goal.steps-preserved
steps-preserved g c =
    let f = g.B.Step.Step.logged c.lent-steps.result.0.now in
    let more = flat_map f c.in-Some.others in
    let old = c.steps.entries.items in
    ap (λ l. l ++ more) c.in_ok-append_to.ensures
    ∙ append_assoc old (f c.in-Some.step.now) more
    ∙ ap (λ steps. old ++ flat_map f steps) (sym c.in-Some.ensures.some)
    ∙ c.steps.invariant

pub returns : goal.returns
returns g c =
    let f = g.B.Step.Step.logged c.lent-steps.result.0.now in
    let old = c.steps.entries.items in
    sym (append-nil old) ∙ ap (λ steps. old ++ flat_map f steps) (sym (c.in_default.ensures.none refl)) ∙ c.steps.invariant
