use Rattle.std.proofs.Common.{◌∙◌, ap, arith}
use Rattle.std.proofs.lemmas.Grind.{common_steps}
use Rattle.idl_tree.specs.declared.expression.And.{out-And}
use Rattle.idl_tree.specs.declared.expression.ExclusiveOr.{out-ExclusiveOr}
use Rattle.idl_tree.specs.declared.expression.Expression.{out-Expression}
use Rattle.idl_tree.specs.declared.expression.Product.{out-Product}
use Rattle.idl_tree.specs.declared.expression.Shift.{out-Shift}
use Rattle.idl_tree.specs.declared.expression.Sum.{out-Sum}
use Rattle.idl_tree.specs.declared.expression.Unary.{out-Unary}
use Rattle.idl_value.specs.Evaluation.{behind}
use Rattle.idl_value.specs.Term.{links, shift_operator, sum_operator, product_operator, expression_term, exclusive_or_term, and_term, shift_term, sum_term, product_term, unary_term, primary_term}
use Rattle.idl_value.specs.Walk.{seen, walk_links, walk_parenthesis, walk_sign, walk_term}
use Rattle.idl_value.specs.declared.operator.BinaryOperator.TheVariants as operator
use Rattle.idl_value.proofs.TermEquations.{expression_term-out, exclusive_or_term-out, and_term-out, shift_term-out, sum_term-out, product_term-out, unary_term-out, primary_term-parentheses}
use Rattle.idl_value.proofs.walk.Scene.+expression.Goals as goal

pub expression-loop-operand-init : goal.expression-loop-operand-init
expression-loop-operand-init t c =
    rw expression_term-out
    (ap (λ w. walk_links c.args.self.target.now c.args.self.operands.now w (links (λ s. operator.Or) exclusive_or_term (out-Expression c.args.expression.now).rest))
    (c.exclusive_or-left.ensures ∙ ap (λ x. walk_term c.args.self.target.now c.args.self.operands.now c.args.place (exclusive_or_term x)) c.get.ensures))

pub exclusive_or-loop-operand-init : goal.exclusive_or-loop-operand-init
exclusive_or-loop-operand-init t c =
    rw exclusive_or_term-out
    (ap (λ w. walk_links c.args.self.target.now c.args.self.operands.now w (links (λ s. operator.ExclusiveOr) and_term (out-ExclusiveOr c.args.exclusive_or.now).rest))
    (c.and-left.ensures ∙ ap (λ x. walk_term c.args.self.target.now c.args.self.operands.now c.args.place (and_term x)) c.get.ensures))

pub and-loop-operand-init : goal.and-loop-operand-init
and-loop-operand-init t c =
    rw and_term-out
    (ap (λ w. walk_links c.args.self.target.now c.args.self.operands.now w (links (λ s. operator.And) shift_term (out-And c.args.and.now).rest))
    (c.shift-left.ensures ∙ ap (λ x. walk_term c.args.self.target.now c.args.self.operands.now c.args.place (shift_term x)) c.get.ensures))

pub shift-loop-operator-init : goal.shift-loop-operator-init
shift-loop-operator-init t c =
    rw shift_term-out
    (ap (λ w. walk_links c.args.self.target.now c.args.self.operands.now w (links (λ s. shift_operator s.0) (λ s. sum_term s.1) (out-Shift c.args.shift.now).rest))
    (c.sum-left.ensures ∙ ap (λ x. walk_term c.args.self.target.now c.args.self.operands.now c.args.place (sum_term x)) c.get.ensures))

pub sum-loop-operator-init : goal.sum-loop-operator-init
sum-loop-operator-init t c =
    rw sum_term-out
    (ap (λ w. walk_links c.args.self.target.now c.args.self.operands.now w (links (λ s. sum_operator s.0) (λ s. product_term s.1) (out-Sum c.args.sum.now).rest))
    (c.product-left.ensures ∙ ap (λ x. walk_term c.args.self.target.now c.args.self.operands.now c.args.place (product_term x)) c.get.ensures))

pub product-loop-operator-init : goal.product-loop-operator-init
product-loop-operator-init t c =
    rw product_term-out
    (ap (λ w. walk_links c.args.self.target.now c.args.self.operands.now w (links (λ s. product_operator s.0) (λ s. unary_term s.1) (out-Product c.args.product.now).rest))
    (c.unary-left.ensures ∙ ap (λ x. walk_term c.args.self.target.now c.args.self.operands.now c.args.place (unary_term x)) c.get.ensures))

pub unary-returns-in-None : goal.unary-returns-in-None
unary-returns-in-None t c = rw (unary_term-out, c.in-None.is) c.primary.ensures

pub unary-returns-in-Some : goal.unary-returns-in-Some
unary-returns-in-Some t c =
    rw (unary_term-out, c.in-Some.is)
    ((λ i. record { outcome = c.with_sign.ensures i; place = c.primary-in-Some.result.place })
    ∙ ap (walk_sign c.args.self.target.now c.args.place.token c.in-Some.sign)
    (c.primary-in-Some.ensures
    ∙ ap (λ p. walk_term c.args.self.target.now c.args.self.operands.now p (primary_term (out-Unary c.args.unary.now).operand)) c.further.ensures))

pub primary-returns-in-Parentheses : goal.primary-returns-in-Parentheses
primary-returns-in-Parentheses t c =
    rw (c.in-Parentheses.is, primary_term-parentheses)
    ((λ i. record { outcome = seen c.expression.result.part; place = c.further-in-Parentheses.ensures i })
    ∙ ap walk_parenthesis
    (c.expression.ensures
    ∙ ap (λ p. walk_term c.args.self.target.now c.args.self.operands.now p (expression_term c.get.result.now)) c.further.ensures
    ∙ ap (λ e. walk_term c.args.self.target.now c.args.self.operands.now (behind c.args.place 1 0) (expression_term e)) c.get.ensures))

pub expression-loop-operand-preserved : goal.expression-loop-operand-preserved
expression-loop-operand-preserved t c = grind (arith, common_steps)

pub expression-returns : goal.expression-returns
expression-returns t c = grind (arith, common_steps)

pub exclusive_or-loop-operand-preserved : goal.exclusive_or-loop-operand-preserved
exclusive_or-loop-operand-preserved t c = grind (arith, common_steps)

pub exclusive_or-returns : goal.exclusive_or-returns
exclusive_or-returns t c = grind (arith, common_steps)

pub and-loop-operand-preserved : goal.and-loop-operand-preserved
and-loop-operand-preserved t c = grind (arith, common_steps)

pub and-returns : goal.and-returns
and-returns t c = grind (arith, common_steps)

pub shift-loop-operator-preserved : goal.shift-loop-operator-preserved
shift-loop-operator-preserved t c = grind (arith, common_steps)

pub shift-returns : goal.shift-returns
shift-returns t c = grind (arith, common_steps)

pub sum-loop-operator-preserved : goal.sum-loop-operator-preserved
sum-loop-operator-preserved t c = grind (arith, common_steps)

pub sum-returns : goal.sum-returns
sum-returns t c = grind (arith, common_steps)

pub product-loop-operator-preserved : goal.product-loop-operator-preserved
product-loop-operator-preserved t c = grind (arith, common_steps)

pub product-returns : goal.product-returns
product-returns t c = grind (arith, common_steps)
