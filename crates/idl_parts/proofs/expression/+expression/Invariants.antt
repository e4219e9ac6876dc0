use Rattle.std.proofs.Common.{◌∷◌, ◌++◌, take}
use Rattle.std.specs.List.{flat_map}
use Rattle.idl_lex.specs.declared.kinds.mark.Mark.TheVariants.{Ampersand, Bar, Caret}
use Rattle.idl_parts.specs.ExpressionParts.{and_parts, exclusive_or_parts, product_parts, shift_parts, sum_parts, unary_parts}
use Rattle.idl_parts.specs.Item.{Pushes}
use Rattle.idl_parts.specs.Part.{punctuation}
use Rattle.idl_tree.specs.Expression.{product_mark, shift_mark, sum_mark}
use Rattle.idl_tree.specs.declared.expression.And.{out-And}
use Rattle.idl_tree.specs.declared.expression.ExclusiveOr.{out-ExclusiveOr}
use Rattle.idl_tree.specs.declared.expression.Expression.{out-Expression}
use Rattle.idl_tree.specs.declared.expression.Product.{out-Product}
use Rattle.idl_tree.specs.declared.expression.Shift.{out-Shift}
use Rattle.idl_tree.specs.declared.expression.Sum.{out-Sum}
use Rattle.idl_parts.proofs.expression.+expression.Given as goal

abbrev pub invariant-push_expression-loop-operand : goal.invariant-push_expression-loop-operand
invariant-push_expression-loop-operand l =
    Pushes l.fn.sites.items l.sites.items
    (exclusive_or_parts (out-Expression l.expression).first ++ flat_map (λ operand. punctuation Bar ∷ exclusive_or_parts operand) (take l.operand-index (out-Expression l.expression).rest))

abbrev pub invariant-push_exclusive_or-loop-operand : goal.invariant-push_exclusive_or-loop-operand
invariant-push_exclusive_or-loop-operand l =
    Pushes l.fn.sites.items l.sites.items
    (and_parts (out-ExclusiveOr l.exclusive_or).first ++ flat_map (λ operand. punctuation Caret ∷ and_parts operand) (take l.operand-index (out-ExclusiveOr l.exclusive_or).rest))

abbrev pub invariant-push_and-loop-operand : goal.invariant-push_and-loop-operand
invariant-push_and-loop-operand l =
    Pushes l.fn.sites.items l.sites.items
    (shift_parts (out-And l.and).first ++ flat_map (λ operand. punctuation Ampersand ∷ shift_parts operand) (take l.operand-index (out-And l.and).rest))

abbrev pub invariant-push_shift-loop-operator : goal.invariant-push_shift-loop-operator
invariant-push_shift-loop-operator l =
    Pushes l.fn.sites.items l.sites.items
    (sum_parts (out-Shift l.shift).first ++ flat_map (λ s. punctuation (shift_mark s.0) ∷ sum_parts s.1) (take l._operator-index (out-Shift l.shift).rest))

abbrev pub invariant-push_sum-loop-operator : goal.invariant-push_sum-loop-operator
invariant-push_sum-loop-operator l =
    Pushes l.fn.sites.items l.sites.items
    (product_parts (out-Sum l.sum).first ++ flat_map (λ s. punctuation (sum_mark s.0) ∷ product_parts s.1) (take l._operator-index (out-Sum l.sum).rest))

abbrev pub invariant-push_product-loop-operator : goal.invariant-push_product-loop-operator
invariant-push_product-loop-operator l =
    Pushes l.fn.sites.items l.sites.items
    (unary_parts (out-Product l.product).first ++ flat_map (λ s. punctuation (product_mark s.0) ∷ unary_parts s.1) (take l._operator-index (out-Product l.product).rest))
