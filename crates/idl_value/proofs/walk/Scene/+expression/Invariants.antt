use Rattle.std.proofs.Common.{◌≡◌, drop}
use Rattle.idl_tree.specs.declared.expression.And.{out-And}
use Rattle.idl_tree.specs.declared.expression.ExclusiveOr.{out-ExclusiveOr}
use Rattle.idl_tree.specs.declared.expression.Expression.{out-Expression}
use Rattle.idl_tree.specs.declared.expression.Product.{out-Product}
use Rattle.idl_tree.specs.declared.expression.Shift.{out-Shift}
use Rattle.idl_tree.specs.declared.expression.Sum.{out-Sum}
use Rattle.idl_value.specs.Term.{links, shift_operator, sum_operator, product_operator, expression_term, exclusive_or_term, and_term, shift_term, sum_term, product_term, unary_term}
use Rattle.idl_value.specs.Walk.{stepped, walk_links, walk_term}
use Rattle.idl_value.specs.declared.operator.BinaryOperator.TheVariants as operator
use Rattle.idl_value.proofs.walk.Scene.+expression.Given as goal

abbrev pub invariant-expression-loop-operand : goal.invariant-expression-loop-operand
invariant-expression-loop-operand l =
    walk_links l.self.target.now l.self.operands.now (stepped l.left)
    (links (λ s. operator.Or) exclusive_or_term (drop l.operand-index (out-Expression l.expression).rest))
    ≡ walk_term l.self.target.now l.self.operands.now l.fn.place (expression_term l.expression)

abbrev pub invariant-exclusive_or-loop-operand : goal.invariant-exclusive_or-loop-operand
invariant-exclusive_or-loop-operand l =
    walk_links l.self.target.now l.self.operands.now (stepped l.left)
    (links (λ s. operator.ExclusiveOr) and_term (drop l.operand-index (out-ExclusiveOr l.exclusive_or).rest))
    ≡ walk_term l.self.target.now l.self.operands.now l.fn.place (exclusive_or_term l.exclusive_or)

abbrev pub invariant-and-loop-operand : goal.invariant-and-loop-operand
invariant-and-loop-operand l =
    walk_links l.self.target.now l.self.operands.now (stepped l.left)
    (links (λ s. operator.And) shift_term (drop l.operand-index (out-And l.and).rest))
    ≡ walk_term l.self.target.now l.self.operands.now l.fn.place (and_term l.and)

abbrev pub invariant-shift-loop-operator : goal.invariant-shift-loop-operator
invariant-shift-loop-operator l =
    walk_links l.self.target.now l.self.operands.now (stepped l.left)
    (links (λ s. shift_operator s.0) (λ s. sum_term s.1) (drop l.operator-index (out-Shift l.shift).rest))
    ≡ walk_term l.self.target.now l.self.operands.now l.fn.place (shift_term l.shift)

abbrev pub invariant-sum-loop-operator : goal.invariant-sum-loop-operator
invariant-sum-loop-operator l =
    walk_links l.self.target.now l.self.operands.now (stepped l.left)
    (links (λ s. sum_operator s.0) (λ s. product_term s.1) (drop l.operator-index (out-Sum l.sum).rest))
    ≡ walk_term l.self.target.now l.self.operands.now l.fn.place (sum_term l.sum)

abbrev pub invariant-product-loop-operator : goal.invariant-product-loop-operator
invariant-product-loop-operator l =
    walk_links l.self.target.now l.self.operands.now (stepped l.left)
    (links (λ s. product_operator s.0) (λ s. unary_term s.1) (drop l.operator-index (out-Product l.product).rest))
    ≡ walk_term l.self.target.now l.self.operands.now l.fn.place (product_term l.product)
