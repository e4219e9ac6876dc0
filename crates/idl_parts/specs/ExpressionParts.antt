-- The parts of expressions: the names that are used, and the tokens between them.
use Rattle.std.specs.Prelude.{[], ◌∷◌, ◌++◌, flat_map, Option, None, Some}
use Rattle.idl_lex.specs.declared.kinds.mark.Mark.TheVariants as mark
use Rattle.idl_parts.specs.Part.{Parts, Plain, Uses, ValueBegins, ValueEnds, punctuation}
use Rattle.idl_parts.specs.declared.part.Purpose.{Purpose}
use Rattle.idl_parts.specs.declared.part.Use.TheVariants.{AsOperand}
use Rattle.idl_tree.specs.Expression.{product_mark, shift_mark, spell_literal, spell_unary_operator, sum_mark}
use Rattle.idl_tree.specs.declared.expression.And.{And}
use Rattle.idl_tree.specs.declared.expression.ExclusiveOr.{ExclusiveOr}
use Rattle.idl_tree.specs.declared.expression.Expression.{Expression}
use Rattle.idl_tree.specs.declared.expression.Primary.{Primary, fold-Primary}
use Rattle.idl_tree.specs.declared.expression.Primary.TheFolds.{fold-And, fold-ExclusiveOr, fold-Expression, fold-Product, fold-Shift, fold-Sum, fold-Unary}
use Rattle.idl_tree.specs.declared.expression.Primary.TheOpen.{Expression-F, ExclusiveOr-F, And-F, Shift-F, Sum-F, Product-F, Unary-F, Primary-F}
use Rattle.idl_tree.specs.declared.expression.Product.{Product}
use Rattle.idl_tree.specs.declared.expression.Shift.{Shift}
use Rattle.idl_tree.specs.declared.expression.Sum.{Sum}
use Rattle.idl_tree.specs.declared.expression.Unary.{Unary}
use Rattle.idl_tree.specs.declared.expression.UnaryOperator.{UnaryOperator}

-- primary = name | literal | "(" expr ")"
abbrev pub primary_step : Primary-F Parts Parts Parts Parts Parts Parts Parts Parts → Parts
primary_step (Primary-F.Name n) = Uses AsOperand n ∷ []
primary_step (Primary-F.Literal l) = Plain (spell_literal l) ∷ []
primary_step (Primary-F.Parentheses inner) =
    punctuation mark.OpenParenthesis ∷ (inner ++ punctuation mark.CloseParenthesis ∷ [])

abbrev pub operator_parts : Option UnaryOperator → Parts
operator_parts None = []
operator_parts (Some operator) = Plain (spell_unary_operator (Some operator)) ∷ []

-- at most one of - + ~ ; primary
abbrev pub unary_step : Unary-F Parts Parts Parts Parts Parts Parts Parts Parts → Parts
unary_step u = operator_parts u.operator ++ u.operand

-- operands with * / % between them
abbrev pub product_step : Product-F Parts Parts Parts Parts Parts Parts Parts Parts → Parts
product_step p = p.first ++ flat_map (λ s. punctuation (product_mark s.0) ∷ s.1) p.rest

-- operands with + - between them
abbrev pub sum_step : Sum-F Parts Parts Parts Parts Parts Parts Parts Parts → Parts
sum_step p = p.first ++ flat_map (λ s. punctuation (sum_mark s.0) ∷ s.1) p.rest

-- operands with << >> between them
abbrev pub shift_step : Shift-F Parts Parts Parts Parts Parts Parts Parts Parts → Parts
shift_step p = p.first ++ flat_map (λ s. punctuation (shift_mark s.0) ∷ s.1) p.rest

-- operands with & between them
abbrev pub and_step : And-F Parts Parts Parts Parts Parts Parts Parts Parts → Parts
and_step p = p.first ++ flat_map (λ operand. punctuation mark.Ampersand ∷ operand) p.rest

-- operands with ^ between them
abbrev pub exclusive_or_step : ExclusiveOr-F Parts Parts Parts Parts Parts Parts Parts Parts → Parts
exclusive_or_step p = p.first ++ flat_map (λ operand. punctuation mark.Caret ∷ operand) p.rest

-- operands with | between them
abbrev pub expression_step : Expression-F Parts Parts Parts Parts Parts Parts Parts Parts → Parts
expression_step p = p.first ++ flat_map (λ operand. punctuation mark.Bar ∷ operand) p.rest

-- an expression
unfoldable pub expression_parts : Expression → Parts
expression_parts =
    fold-Expression Parts Parts Parts Parts Parts Parts Parts Parts
    primary_step and_step exclusive_or_step expression_step
    product_step shift_step sum_step unary_step

-- the ranks below
unfoldable pub exclusive_or_parts : ExclusiveOr → Parts
exclusive_or_parts =
    fold-ExclusiveOr Parts Parts Parts Parts Parts Parts Parts Parts
    primary_step and_step exclusive_or_step expression_step
    product_step shift_step sum_step unary_step

unfoldable pub and_parts : And → Parts
and_parts =
    fold-And Parts Parts Parts Parts Parts Parts Parts Parts
    primary_step and_step exclusive_or_step expression_step
    product_step shift_step sum_step unary_step

unfoldable pub shift_parts : Shift → Parts
shift_parts =
    fold-Shift Parts Parts Parts Parts Parts Parts Parts Parts
    primary_step and_step exclusive_or_step expression_step
    product_step shift_step sum_step unary_step

unfoldable pub sum_parts : Sum → Parts
sum_parts =
    fold-Sum Parts Parts Parts Parts Parts Parts Parts Parts
    primary_step and_step exclusive_or_step expression_step
    product_step shift_step sum_step unary_step

unfoldable pub product_parts : Product → Parts
product_parts =
    fold-Product Parts Parts Parts Parts Parts Parts Parts Parts
    primary_step and_step exclusive_or_step expression_step
    product_step shift_step sum_step unary_step

unfoldable pub unary_parts : Unary → Parts
unary_parts =
    fold-Unary Parts Parts Parts Parts Parts Parts Parts Parts
    primary_step and_step exclusive_or_step expression_step
    product_step shift_step sum_step unary_step

unfoldable pub primary_parts : Primary → Parts
primary_parts =
    fold-Primary Parts Parts Parts Parts Parts Parts Parts Parts
    primary_step and_step exclusive_or_step expression_step
    product_step shift_step sum_step unary_step

-- a whole expression, and what it is for
abbrev pub value_parts : Purpose → Expression → Parts
value_parts target e = ValueBegins ∷ (expression_parts e ++ ValueEnds target e ∷ [])
