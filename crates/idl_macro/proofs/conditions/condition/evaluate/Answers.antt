use Rattle.std.proofs.Common.{[], List, drop, sym, ◌∙◌, ap, subst}
use Rattle.std.proofs.lemmas.List.{drop_all}
use Rattle.idl_macro.specs.conditions.Waiting.{meaning_at, IsAbove, IsRising}
use Rattle.idl_macro.specs.declared.conditions.condition.Awaited.TheVariants.{BeforeOperand}
use Rattle.idl_macro.specs.declared.conditions.stack.Waiting.{Waiting}
use Rattle.idl_macro.proofs.ConditionLaws.WaitingLemmas.{SettlesTo, meaning_at-start, meaning_at-nowhere, meaning_at-end-open, meaning_at-end-closed, meaning_at-end-unclosed}
use Rattle.idl_macro.proofs.conditions.condition.evaluate.Goals as goal

pub symbols-init : goal.symbols-init
symbols-init c = record {
  same = ap (λ es. meaning_at BeforeOperand es c.args.symbols.now) c.new-stack.ensures ∙ meaning_at-start c.args.symbols.now;
  sound = subst (λ (es : List Waiting). IsRising es) (sym c.new-stack.ensures) tt;
}

pub returns-in-Nowhere : goal.returns-in-Nowhere
returns-in-Nowhere c =
    let es = c.symbols.stack in
    let rest = drop c.symbols.symbol-index c.args.symbols.now in
    meaning_at-nowhere es rest ∙ ap (λ p. meaning_at p es rest) (sym c.in-Nowhere.is) ∙ c.symbols.invariant.same

pub returns-in_default : goal.returns-in_default
returns-in_default c =
    let es = c.symbols.stack in
    meaning_at-end-open c.symbols.place es c.in_default.not-AfterOperand
    ∙ ap (λ rest. meaning_at c.symbols.place es rest) (sym (drop_all c.symbols.symbol-index c.args.symbols.now c.symbols-test.false))
    ∙ c.symbols.invariant.same

pub returns-in-None : goal.returns-in-None
returns-in-None c =
    let es = c.symbols.stack in
    let v = c.in-AfterOperand-place.value in
    let w = c.in_ok-value.value in
    meaning_at-end-closed es v w (subst (λ (settled : List Waiting). SettlesTo es v settled w) c.in-None.ensures.0 c.in_ok-value.ensures.meaning)
    ∙ ap (λ p. meaning_at p es []) (sym c.in-AfterOperand-place.is)
    ∙ ap (λ rest. meaning_at c.symbols.place es rest) (sym (drop_all c.symbols.symbol-index c.args.symbols.now c.symbols-test.false))
    ∙ c.symbols.invariant.same

pub returns : goal.returns
returns c =
    let es = c.symbols.stack in
    let v = c.in-AfterOperand-place.value in
    let w = c.in_ok-value.value in
    let top = c.in-Some.ensures in
    meaning_at-end-unclosed es v w c.in-Some._waiting c.pop.new.self (subst (λ (settled : List Waiting). SettlesTo es v settled w) top c.in_ok-value.ensures.meaning)
    (subst (λ (settled : List Waiting). IsAbove settled 0) top c.in_ok-value.ensures.above)
    ∙ ap (λ p. meaning_at p es []) (sym c.in-AfterOperand-place.is)
    ∙ ap (λ rest. meaning_at c.symbols.place es rest) (sym (drop_all c.symbols.symbol-index c.args.symbols.now c.symbols-test.false))
    ∙ c.symbols.invariant.same
