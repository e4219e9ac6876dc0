use Rattle.std.proofs.Common.{List, ◌∷◌, Some, pos, sym, ◌∙◌, ap, subst}
use Rattle.idl_macro.specs.conditions.Waiting.{meaning_at, IsRising}
use Rattle.idl_macro.specs.declared.conditions.condition.Awaited.TheVariants.{BeforeOperand, AfterOperand}
use Rattle.idl_macro.specs.declared.conditions.stack.Waiting.{Waiting}
use Rattle.idl_macro.proofs.ConditionLaws.WaitingLemmas.{meaning_at-operand, meaning_at-number, meaning_at-name, meaning_at-open, meaning_at-sign, meaning_at-no-operand}
use Rattle.idl_macro.proofs.conditions.condition.operand.Goals as goal

pub returns-in_ok-value-in-Number-clause-meaning : goal.returns-in_ok-value-in-Number-clause-meaning
returns-in_ok-value-in-Number-clause-meaning c = λ rest.
    let old = c.args.stack.now in
    meaning_at-operand old c.complete.new.stack c.signed.result c.in_ok-value-in-Number.value rest c.in_ok-value-in-Number.ensures.meaning
    ∙ ap (λ v. meaning_at (AfterOperand v) old rest) c.signed.ensures
    ∙ meaning_at-number old c.in-Number.number rest
    ∙ ap (λ k. meaning_at BeforeOperand old (k ∷ rest)) (sym c.in-Number.is)

pub returns-in_ok-value-in-Name-clause-meaning : goal.returns-in_ok-value-in-Name-clause-meaning
returns-in_ok-value-in-Name-clause-meaning c = λ rest.
    let old = c.args.stack.now in
    meaning_at-operand old c.complete-in-Name.new.stack (Some (pos 0)) c.in_ok-value-in-Name.value rest c.in_ok-value-in-Name.ensures.meaning
    ∙ meaning_at-name old rest
    ∙ ap (λ k. meaning_at BeforeOperand old (k ∷ rest)) (sym c.in-Name.is)

pub returns-in_ok-push-in-Open-clause-meaning : goal.returns-in_ok-push-in-Open-clause-meaning
returns-in_ok-push-in-Open-clause-meaning c = λ rest.
    let old = c.args.stack.now in
    ap (λ es. meaning_at BeforeOperand es rest) c.in_ok-push-in-Open.ensures
    ∙ meaning_at-open old rest
    ∙ ap (λ k. meaning_at BeforeOperand old (k ∷ rest)) (sym c.in-Open.is)

pub returns-in_ok-push-in-Some : goal.returns-in_ok-push-in-Some
returns-in_ok-push-in-Some c =
    let old = c.args.stack.now in
    let d = c.in_default in
    let pushed = c.in_ok-push-in-Some.ensures in
    record {
      sound = subst (λ (es : List Waiting). IsRising es) (sym pushed) c.requires;
      meaning = λ rest. ap (λ es. meaning_at BeforeOperand es rest) pushed
          ∙ meaning_at-sign old c.args.symbol c.in-Some.sign rest d.not-Number d.not-Name d.not-Open (sym c.in-Some.ensures);
    }

pub returns-in-None : goal.returns-in-None
returns-in-None c =
    let d = c.in_default in
    record {
      sound = tt;
      meaning = λ rest. meaning_at-no-operand c.args.stack.now c.args.stack.now c.args.symbol rest d.not-Number d.not-Name d.not-Open (sym c.in-None.ensures);
    }
