use Rattle.std.proofs.Common.{arith, refl, sym, ◌∙◌}
use Rattle.std.proofs.lemmas.Grind.{common_steps}
use Rattle.std.proofs.lemmas.Result.{err_from_is_err_and}
use Rattle.idl_tree.specs.reading.ReadExpression.{product_operator_of, shift_operator_of, sum_operator_of, expression_at, unary_with}
use Rattle.idl_syntax.proofs.Turns.{turns_start, turns_stop, loop_behind, loop_behind_fails, loop_operator, loop_operator_ends, loop_operator_fails}
use Rattle.idl_syntax.proofs.expression.+expression.Goals as goal

pub more_alternatives-more_alternatives-init : goal.more_alternatives-more_alternatives-init
more_alternatives-more_alternatives-init t c = record { turns = turns_start _ _ _ _ c.new-operands.ensures.items; long = omega arith }

pub more_ands-more_ands-init : goal.more_ands-more_ands-init
more_ands-more_ands-init t c = record { turns = turns_start _ _ _ _ c.new-operands.ensures.items; long = omega arith }

pub more_shifts-more_shifts-init : goal.more_shifts-more_shifts-init
more_shifts-more_shifts-init t c = record { turns = turns_start _ _ _ _ c.new-operands.ensures.items; long = omega arith }

pub more_sums-more_sums-init : goal.more_sums-more_sums-init
more_sums-more_sums-init t c = record { turns = turns_start _ _ _ _ c.new-steps.ensures.items; long = omega arith }

pub more_products-more_products-init : goal.more_products-more_products-init
more_products-more_products-init t c = record { turns = turns_start _ _ _ _ c.new-steps.ensures.items; long = omega arith }

pub more_unaries-more_unaries-init : goal.more_unaries-more_unaries-init
more_unaries-more_unaries-init t c = record { turns = turns_start _ _ _ _ c.new-steps.ensures.items; long = omega arith }

pub more_alternatives-more_alternatives-preserved : goal.more_alternatives-more_alternatives-preserved
more_alternatives-more_alternatives-preserved t c = record {
  turns = loop_behind _ _ _ _ c.more_alternatives.rest.now _ _ _ c.more_alternatives.invariant.turns (sym c.is_at.ensures ∙ c.more_alternatives-test.true) c.in_ok-operand.ensures.reads c.in_ok-operand.ensures.shorter c.in_ok-push.ensures.items;
  long = omega (arith, c.in_ok-operand.ensures.shorter, c.more_alternatives.invariant.long);
}

pub more_alternatives-returns-in_err-operand-clause-reads : goal.more_alternatives-returns-in_err-operand-clause-reads
more_alternatives-returns-in_err-operand-clause-reads t c =
    let why = err_from_is_err_and c.from_residual.result c.from_residual.ensures.1 in
    rw (why.1, why.2) (loop_behind_fails _ _ _ c.more_alternatives.rest.now _ _ c.more_alternatives.invariant.turns (sym c.is_at.ensures ∙ c.more_alternatives-test.true) c.in_err-operand.ensures.reads)

pub more_ands-more_ands-preserved : goal.more_ands-more_ands-preserved
more_ands-more_ands-preserved t c = record {
  turns = loop_behind _ _ _ _ c.more_ands.rest.now _ _ _ c.more_ands.invariant.turns (sym c.is_at.ensures ∙ c.more_ands-test.true) c.in_ok-operand.ensures.reads c.in_ok-operand.ensures.shorter c.in_ok-push.ensures.items;
  long = omega (arith, c.in_ok-operand.ensures.shorter, c.more_ands.invariant.long);
}

pub more_ands-returns-in_err-operand-clause-reads : goal.more_ands-returns-in_err-operand-clause-reads
more_ands-returns-in_err-operand-clause-reads t c =
    let why = err_from_is_err_and c.from_residual.result c.from_residual.ensures.1 in
    rw (why.1, why.2) (loop_behind_fails _ _ _ c.more_ands.rest.now _ _ c.more_ands.invariant.turns (sym c.is_at.ensures ∙ c.more_ands-test.true) c.in_err-operand.ensures.reads)

pub more_shifts-more_shifts-preserved : goal.more_shifts-more_shifts-preserved
more_shifts-more_shifts-preserved t c = record {
  turns = loop_behind _ _ _ _ c.more_shifts.rest.now _ _ _ c.more_shifts.invariant.turns (sym c.is_at.ensures ∙ c.more_shifts-test.true) c.in_ok-operand.ensures.reads c.in_ok-operand.ensures.shorter c.in_ok-push.ensures.items;
  long = omega (arith, c.in_ok-operand.ensures.shorter, c.more_shifts.invariant.long);
}

pub more_shifts-returns-in_err-operand-clause-reads : goal.more_shifts-returns-in_err-operand-clause-reads
more_shifts-returns-in_err-operand-clause-reads t c =
    let why = err_from_is_err_and c.from_residual.result c.from_residual.ensures.1 in
    rw (why.1, why.2) (loop_behind_fails _ _ _ c.more_shifts.rest.now _ _ c.more_shifts.invariant.turns (sym c.is_at.ensures ∙ c.more_shifts-test.true) c.in_err-operand.ensures.reads)

pub more_alternatives-returns-clause-reads : goal.more_alternatives-returns-clause-reads
more_alternatives-returns-clause-reads t c = rw c.from_vec.ensures (turns_stop _ _ _ _ _ c.more_alternatives.invariant.turns (sym c.is_at.ensures ∙ c.more_alternatives-test.false))

pub more_ands-returns-clause-reads : goal.more_ands-returns-clause-reads
more_ands-returns-clause-reads t c = rw c.from_vec.ensures (turns_stop _ _ _ _ _ c.more_ands.invariant.turns (sym c.is_at.ensures ∙ c.more_ands-test.false))

pub more_shifts-returns-clause-reads : goal.more_shifts-returns-clause-reads
more_shifts-returns-clause-reads t c = rw c.from_vec.ensures (turns_stop _ _ _ _ _ c.more_shifts.invariant.turns (sym c.is_at.ensures ∙ c.more_shifts-test.false))

pub more_sums-more_sums-preserved : goal.more_sums-more_sums-preserved
more_sums-more_sums-preserved t c = record {
  turns = loop_operator shift_operator_of _ _ _ c.more_sums.rest.now _ _ c.in-Some.operator _ refl c.more_sums.invariant.turns (sym c.shift_operator.ensures ∙ c.in-Some.is) c.in_ok-operand.ensures.reads c.in_ok-operand.ensures.shorter c.in_ok-push.ensures.items;
  long = omega (arith, c.in_ok-operand.ensures.shorter, c.more_sums.invariant.long);
}

pub more_sums-returns-in_err-operand-clause-reads : goal.more_sums-returns-in_err-operand-clause-reads
more_sums-returns-in_err-operand-clause-reads t c =
    let why = err_from_is_err_and c.from_residual.result c.from_residual.ensures.1 in
    rw (why.1, why.2) (loop_operator_fails shift_operator_of _ _ c.more_sums.rest.now _ c.in-Some.operator _ refl c.more_sums.invariant.turns (sym c.shift_operator.ensures ∙ c.in-Some.is) c.in_err-operand.ensures.reads)

pub more_sums-returns-clause-reads : goal.more_sums-returns-clause-reads
more_sums-returns-clause-reads t c = rw c.from_vec.ensures (loop_operator_ends shift_operator_of _ _ c.more_sums.rest.now _ c.more_sums.invariant.turns (sym c.shift_operator.ensures ∙ c.in_default.is))

pub more_products-more_products-preserved : goal.more_products-more_products-preserved
more_products-more_products-preserved t c = record {
  turns = loop_operator sum_operator_of _ _ _ c.more_products.rest.now _ _ c.in-Some.operator _ refl c.more_products.invariant.turns (sym c.sum_operator.ensures ∙ c.in-Some.is) c.in_ok-operand.ensures.reads c.in_ok-operand.ensures.shorter c.in_ok-push.ensures.items;
  long = omega (arith, c.in_ok-operand.ensures.shorter, c.more_products.invariant.long);
}

pub more_products-returns-in_err-operand-clause-reads : goal.more_products-returns-in_err-operand-clause-reads
more_products-returns-in_err-operand-clause-reads t c =
    let why = err_from_is_err_and c.from_residual.result c.from_residual.ensures.1 in
    rw (why.1, why.2) (loop_operator_fails sum_operator_of _ _ c.more_products.rest.now _ c.in-Some.operator _ refl c.more_products.invariant.turns (sym c.sum_operator.ensures ∙ c.in-Some.is) c.in_err-operand.ensures.reads)

pub more_products-returns-clause-reads : goal.more_products-returns-clause-reads
more_products-returns-clause-reads t c = rw c.from_vec.ensures (loop_operator_ends sum_operator_of _ _ c.more_products.rest.now _ c.more_products.invariant.turns (sym c.sum_operator.ensures ∙ c.in_default.is))

pub more_unaries-more_unaries-preserved : goal.more_unaries-more_unaries-preserved
more_unaries-more_unaries-preserved t c = record {
  turns = loop_operator product_operator_of _ _ _ c.more_unaries.rest.now _ _ c.in-Some.operator _ refl c.more_unaries.invariant.turns (sym c.product_operator.ensures ∙ c.in-Some.is) c.in_ok-operand.ensures.reads c.in_ok-operand.ensures.shorter c.in_ok-push.ensures.items;
  long = omega (arith, c.in_ok-operand.ensures.shorter, c.more_unaries.invariant.long);
}

pub more_unaries-returns-in_err-operand-clause-reads : goal.more_unaries-returns-in_err-operand-clause-reads
more_unaries-returns-in_err-operand-clause-reads t c =
    let why = err_from_is_err_and c.from_residual.result c.from_residual.ensures.1 in
    rw (why.1, why.2) (loop_operator_fails product_operator_of _ _ c.more_unaries.rest.now _ c.in-Some.operator _ refl c.more_unaries.invariant.turns (sym c.product_operator.ensures ∙ c.in-Some.is) c.in_err-operand.ensures.reads)

pub more_unaries-returns-clause-reads : goal.more_unaries-returns-clause-reads
more_unaries-returns-clause-reads t c = rw c.from_vec.ensures (loop_operator_ends product_operator_of _ _ c.more_unaries.rest.now _ c.more_unaries.invariant.turns (sym c.product_operator.ensures ∙ c.in_default.is))

pub expression-returns-then-depth-eq0-clause-reads : goal.expression-returns-then-depth-eq0-clause-reads
unfolding expression_at
expression-returns-then-depth-eq0-clause-reads t c = grind (arith, common_steps)

pub unary-returns-clause-reads : goal.unary-returns-clause-reads
unfolding unary_with
unary-returns-clause-reads t c = grind (arith, common_steps)

pub unary-returns-in_err-operand-clause-reads : goal.unary-returns-in_err-operand-clause-reads
unfolding unary_with
unary-returns-in_err-operand-clause-reads t c = grind (arith, common_steps)
