use Rattle.std.proofs.Common.{◌≡◌, ◌∙◌, ◌+◌, ◌-◌, ◌*◌, true, get_or, ap, arith, rules}
use Rattle.idl_editor.specs.frames.Message.{is_number}
use Rattle.idl_editor.proofs.DigitLemmas.{number-step}
use Rattle.idl_editor.proofs.frames.head.number_of.Goals as goal

pub overflow_mul-number : goal.overflow_mul-number
overflow_mul-number c =
    let is : is_number c.args.digits.now ≡ true = search rules in
    let step = number-step c.args.digits.now c.loop-digit.digit-index c.loop-digit.number is (omega arith) c.loop-digit.invariant.value c.loop-digit.invariant.bound in
    omega (arith, step.2)

pub overflow_add-number : goal.overflow_add-number
overflow_add-number c =
    let is : is_number c.args.digits.now ≡ true = search rules in
    let step = number-step c.args.digits.now c.loop-digit.digit-index c.loop-digit.number is (omega arith) c.loop-digit.invariant.value c.loop-digit.invariant.bound in
    let digit : c.from.result ≡ get_or c.args.digits.now c.loop-digit.digit-index 0 - 48 = search rules in
    omega (arith, step.1, step.2, digit)

pub loop-digit-preserved : goal.loop-digit-preserved
loop-digit-preserved c =
    let is : is_number c.args.digits.now ≡ true = search rules in
    let step = number-step c.args.digits.now c.loop-digit.digit-index c.loop-digit.number is (omega arith) c.loop-digit.invariant.value c.loop-digit.invariant.bound in
    let digit : c.from.result ≡ get_or c.args.digits.now c.loop-digit.digit-index 0 - 48 = search rules in
    record {
      value = ap (λ x. c.loop-digit.number * 10 + x) digit ∙ step.0;
      bound = omega (arith, step.1, digit);
    }
