-- Step by step: what is left tells.
use Rattle.std.proofs.Common.{◌≡◌, true, None, refl, sym, ap, flat_map, ◌∙◌}
use Rattle.std.specs.Option.{is_some}
use Rattle.idl_memo.specs.Runs.{first_other}
use Rattle.idl_memo.proofs.RunLaws.{not-some, other-behind, other-front, some-mapped}
use Rattle.idl_memo.proofs.run.Run.first_other.Goals as goal

pub steps-init : goal.steps-init
steps-init g c = ap (first_other g.B.Answer.PartialEq.eq (g.B.Bank.at c.args.bank.now)) c.lent-steps.ensures

pub returns-then-is_some : goal.returns-then-is_some
returns-then-is_some g c =
    let f = g.B.Step.Step.logged c.lent-steps.result.0.now in
    let eq = g.B.Answer.PartialEq.eq in
    let bank = g.B.Bank.at c.args.bank.now in
    let here = f c.in-Some.step.now in
    let some : is_some (first_other eq bank here) ≡ true = some-mapped _ c.first_other-other.result (first_other eq bank here) c.first_other-other.ensures ∙ sym c.is_some.ensures ∙ c.if-is_some.true in
    c.first_other-other.ensures
    ∙ sym (c.steps.invariant ∙ ap (λ steps. first_other eq bank (flat_map f steps)) c.in-Some.ensures.some ∙ other-front eq bank here (flat_map f c.in-Some.others) some)

pub steps-preserved : goal.steps-preserved
steps-preserved g c =
    let f = g.B.Step.Step.logged c.lent-steps.result.0.now in
    let eq = g.B.Answer.PartialEq.eq in
    let bank = g.B.Bank.at c.args.bank.now in
    let here = f c.in-Some.step.now in
    let none : first_other eq bank here ≡ None = not-some (first_other eq bank here) (some-mapped _ c.first_other-other.result (first_other eq bank here) c.first_other-other.ensures ∙ sym c.is_some.ensures ∙ c.if-is_some.false) in
    c.steps.invariant ∙ ap (λ steps. first_other eq bank (flat_map f steps)) c.in-Some.ensures.some ∙ other-behind eq bank here (flat_map f c.in-Some.others) none

pub returns : goal.returns
returns g c =
    let f = g.B.Step.Step.logged c.lent-steps.result.0.now in
    sym (c.steps.invariant ∙ ap (λ steps. first_other g.B.Answer.PartialEq.eq (g.B.Bank.at c.args.bank.now) (flat_map f steps)) (c.in_default.ensures.none refl))
