use Rattle.std.proofs.Common.{◌≤◌, ◌+◌, ◌*◌, length, is_some}
use Rattle.idl_lex.specs.declared.kinds.mark.Mark.TheVariants as mark
use Rattle.idl_tree.specs.Lexeme.{lexemes}
use Rattle.idl_tree.specs.reading.ReadExpression.{and_with, behind_with, exclusive_or_with, expression_at, primary_with, product_operator_of, product_with, shift_operator_of, shift_with, step_with, sum_operator_of, sum_with, unary_with}
use Rattle.idl_tree.specs.reading.Reading.{many_of}
use Rattle.idl_tree.specs.reading.Tests.{is_mark}
use Rattle.idl_syntax.proofs.Turns.{Turns}
use Rattle.idl_syntax.proofs.expression.+expression.Given as goal

abbrev pub decreases-expression : goal.decreases-expression
decreases-expression l = l.depth * 20

abbrev pub decreases-alternatives : goal.decreases-alternatives
decreases-alternatives l = l.depth * 20 + 16

abbrev pub decreases-more_alternatives : goal.decreases-more_alternatives
decreases-more_alternatives l = l.depth * 20 + 15

abbrev pub decreases-exclusive_or : goal.decreases-exclusive_or
decreases-exclusive_or l = l.depth * 20 + 14

abbrev pub decreases-more_ands : goal.decreases-more_ands
decreases-more_ands l = l.depth * 20 + 13

abbrev pub decreases-and : goal.decreases-and
decreases-and l = l.depth * 20 + 12

abbrev pub decreases-more_shifts : goal.decreases-more_shifts
decreases-more_shifts l = l.depth * 20 + 11

abbrev pub decreases-shift : goal.decreases-shift
decreases-shift l = l.depth * 20 + 10

abbrev pub decreases-more_sums : goal.decreases-more_sums
decreases-more_sums l = l.depth * 20 + 9

abbrev pub decreases-sum : goal.decreases-sum
decreases-sum l = l.depth * 20 + 8

abbrev pub decreases-more_products : goal.decreases-more_products
decreases-more_products l = l.depth * 20 + 7

abbrev pub decreases-product : goal.decreases-product
decreases-product l = l.depth * 20 + 6

abbrev pub decreases-more_unaries : goal.decreases-more_unaries
decreases-more_unaries l = l.depth * 20 + 5

abbrev pub decreases-unary : goal.decreases-unary
decreases-unary l = l.depth * 20 + 4

abbrev pub decreases-primary : goal.decreases-primary
decreases-primary l = l.depth * 20 + 3

abbrev pub decreases-parentheses : goal.decreases-parentheses
decreases-parentheses l = l.depth * 20 + 2

abbrev pub invariant-more_alternatives-more_alternatives : goal.invariant-more_alternatives-more_alternatives
invariant-more_alternatives-more_alternatives l = record {
  turns : Turns (is_mark mark.Bar) (behind_with mark.Bar (exclusive_or_with (expression_at l.fn.depth))) l.operands.items (lexemes l.rest) (many_of (is_mark mark.Bar) (behind_with mark.Bar (exclusive_or_with (expression_at l.fn.depth))) (lexemes l.fn.tokens));
  long : length l.rest ≤ length l.fn.tokens;
}

abbrev pub decreases-more_alternatives-more_alternatives : goal.decreases-more_alternatives-more_alternatives
decreases-more_alternatives-more_alternatives l = length l.rest

abbrev pub invariant-more_ands-more_ands : goal.invariant-more_ands-more_ands
invariant-more_ands-more_ands l = record {
  turns : Turns (is_mark mark.Caret) (behind_with mark.Caret (and_with (expression_at l.fn.depth))) l.operands.items (lexemes l.rest) (many_of (is_mark mark.Caret) (behind_with mark.Caret (and_with (expression_at l.fn.depth))) (lexemes l.fn.tokens));
  long : length l.rest ≤ length l.fn.tokens;
}

abbrev pub decreases-more_ands-more_ands : goal.decreases-more_ands-more_ands
decreases-more_ands-more_ands l = length l.rest

abbrev pub invariant-more_shifts-more_shifts : goal.invariant-more_shifts-more_shifts
invariant-more_shifts-more_shifts l = record {
  turns : Turns (is_mark mark.Ampersand) (behind_with mark.Ampersand (shift_with (expression_at l.fn.depth))) l.operands.items (lexemes l.rest) (many_of (is_mark mark.Ampersand) (behind_with mark.Ampersand (shift_with (expression_at l.fn.depth))) (lexemes l.fn.tokens));
  long : length l.rest ≤ length l.fn.tokens;
}

abbrev pub decreases-more_shifts-more_shifts : goal.decreases-more_shifts-more_shifts
decreases-more_shifts-more_shifts l = length l.rest

abbrev pub invariant-more_sums-more_sums : goal.invariant-more_sums-more_sums
invariant-more_sums-more_sums l = record {
  turns : Turns (λ t. is_some (shift_operator_of t)) (step_with shift_operator_of (sum_with (expression_at l.fn.depth))) l.steps.items (lexemes l.rest) (many_of (λ t. is_some (shift_operator_of t)) (step_with shift_operator_of (sum_with (expression_at l.fn.depth))) (lexemes l.fn.tokens));
  long : length l.rest ≤ length l.fn.tokens;
}

abbrev pub decreases-more_sums-more_sums : goal.decreases-more_sums-more_sums
decreases-more_sums-more_sums l = length l.rest

abbrev pub invariant-more_products-more_products : goal.invariant-more_products-more_products
invariant-more_products-more_products l = record {
  turns : Turns (λ t. is_some (sum_operator_of t)) (step_with sum_operator_of (product_with (expression_at l.fn.depth))) l.steps.items (lexemes l.rest) (many_of (λ t. is_some (sum_operator_of t)) (step_with sum_operator_of (product_with (expression_at l.fn.depth))) (lexemes l.fn.tokens));
  long : length l.rest ≤ length l.fn.tokens;
}

abbrev pub decreases-more_products-more_products : goal.decreases-more_products-more_products
decreases-more_products-more_products l = length l.rest

abbrev pub invariant-more_unaries-more_unaries : goal.invariant-more_unaries-more_unaries
invariant-more_unaries-more_unaries l = record {
  turns : Turns (λ t. is_some (product_operator_of t)) (step_with product_operator_of (unary_with (primary_with (expression_at l.fn.depth)))) l.steps.items (lexemes l.rest) (many_of (λ t. is_some (product_operator_of t)) (step_with product_operator_of (unary_with (primary_with (expression_at l.fn.depth)))) (lexemes l.fn.tokens));
  long : length l.rest ≤ length l.fn.tokens;
}

abbrev pub decreases-more_unaries-more_unaries : goal.decreases-more_unaries-more_unaries
decreases-more_unaries-more_unaries l = length l.rest
