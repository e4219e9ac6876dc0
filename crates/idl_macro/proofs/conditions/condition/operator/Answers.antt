use Rattle.std.proofs.Common.{◌∷◌, sym, ◌∙◌, ap}
use Rattle.idl_macro.specs.conditions.Waiting.{meaning_at}
use Rattle.idl_macro.specs.declared.conditions.condition.Awaited.TheVariants.{BeforeOperand, AfterOperand}
use Rattle.idl_macro.proofs.ConditionLaws.WaitingLemmas.{meaning_at-operator, meaning_at-no-operator}
use Rattle.idl_macro.proofs.conditions.condition.operator.Goals as goal

pub returns-in_ok-push-in-Operator-clause-meaning : goal.returns-in_ok-push-in-Operator-clause-meaning
returns-in_ok-push-in-Operator-clause-meaning c = λ rest.
    let old = c.args.stack.now in
    let settled = c.settle.new.stack in
    let v = c.args.value in
    let w = c.in_ok-left-in-Operator.left in
    let o = c.in-Operator.operator in
    ap (λ es. meaning_at BeforeOperand es rest) c.in_ok-push-in-Operator.ensures
    ∙ meaning_at-operator old settled v w o c.rank.result rest c.in_ok-left-in-Operator.ensures.meaning c.rank.ensures.rank
    ∙ ap (λ k. meaning_at (AfterOperand v) old (k ∷ rest)) (sym c.in-Operator.is)

pub returns-in_default : goal.returns-in_default
returns-in_default c = record {
  sound = tt;
  meaning = λ rest. meaning_at-no-operator c.args.stack.now c.args.stack.now c.args.value c.args.symbol rest c.in_default.not-Operator c.in_default.not-Close;
}
