use Rattle.std.proofs.Common.{◌≡◌, ◌∷◌, ◌∙◌, ap, subst, List}
use Rattle.idl_macro.specs.declared.conditions.stack.Waiting.{Waiting}
use Rattle.idl_macro.specs.declared.conditions.stack.Waiting.TheVariants.{Parenthesis}
use Rattle.idl_macro.proofs.ConditionLaws.WaitingLemmas.{SettlesTo, meaning_at-operand, meaning_at-close, meaning_at-close-unopened}
use Rattle.idl_macro.proofs.conditions.condition.close.Goals as goal

pub returns-in_ok-value-in-Parenthesis-clause-meaning : goal.returns-in_ok-value-in-Parenthesis-clause-meaning
returns-in_ok-value-in-Parenthesis-clause-meaning c = λ rest.
    let old = c.args.stack.now in
    let below = c.pop.new.self in
    let v = c.args.value in
    let w = c.in_ok-inside.inside in
    let top : c.settle.new.stack ≡ Parenthesis ∷ below = c.in-Some.ensures ∙ ap (λ e. e ∷ below) c.in-Parenthesis.is in
    meaning_at-operand below c.complete.new.stack w c.in_ok-value-in-Parenthesis.value rest c.in_ok-value-in-Parenthesis.ensures.meaning
    ∙ meaning_at-close old below v w rest (subst (λ (es : List Waiting). SettlesTo old v es w) top c.in_ok-inside.ensures.meaning)

pub returns-in_default-clause-meaning : goal.returns-in_default-clause-meaning
returns-in_default-clause-meaning c = λ rest.
    meaning_at-close-unopened c.args.stack.now c.pop.new.self c.args.value c.in_ok-inside.inside rest
    (subst (λ (es : List Waiting). SettlesTo c.args.stack.now c.args.value es c.in_ok-inside.inside) c.in_default.ensures.0 c.in_ok-inside.ensures.meaning)
