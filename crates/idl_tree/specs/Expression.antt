-- Expressions. Each equation gives the spelling of a tree by those of its parts.
use Rattle.std.specs.Prelude.{[], ◌∷◌, ◌++◌, flat_map, Option, None, Some}
use Rattle.idl_lex.specs.declared.kinds.keyword.Keyword.TheVariants as word
use Rattle.idl_lex.specs.declared.kinds.mark.Mark.{Mark}
use Rattle.idl_lex.specs.declared.kinds.mark.Mark.TheVariants as mark
use Rattle.idl_tree.specs.Lexeme.{Lexemes, Word, Punctuation, Integer, Character, WideCharacter, Text, WideText}
use Rattle.idl_tree.specs.Name.{spell_name}
use Rattle.idl_tree.specs.Several.{spell_all}
use Rattle.idl_tree.specs.declared.expression.And.{And}
use Rattle.idl_tree.specs.declared.expression.ExclusiveOr.{ExclusiveOr}
use Rattle.idl_tree.specs.declared.expression.Expression.{Expression}
use Rattle.idl_tree.specs.declared.expression.Primary.{Primary, fold-Primary}
use Rattle.idl_tree.specs.declared.expression.Primary.TheFolds.{fold-And, fold-ExclusiveOr, fold-Expression, fold-Product, fold-Shift, fold-Sum, fold-Unary}
use Rattle.idl_tree.specs.declared.expression.Primary.TheOpen.{Expression-F, ExclusiveOr-F, And-F, Shift-F, Sum-F, Product-F, Unary-F, Primary-F}
use Rattle.idl_tree.specs.declared.expression.Product.{Product}
use Rattle.idl_tree.specs.declared.expression.ProductOperator.{ProductOperator}
use Rattle.idl_tree.specs.declared.expression.ProductOperator.TheVariants.{Times, Divided, Remainder}
use Rattle.idl_tree.specs.declared.expression.Shift.{Shift}
use Rattle.idl_tree.specs.declared.expression.ShiftOperator.{ShiftOperator}
use Rattle.idl_tree.specs.declared.expression.ShiftOperator.TheVariants.{Left, Right}
use Rattle.idl_tree.specs.declared.expression.Sum.{Sum}
use Rattle.idl_tree.specs.declared.expression.SumOperator.{SumOperator}
use Rattle.idl_tree.specs.declared.expression.SumOperator.TheVariants as sum
use Rattle.idl_tree.specs.declared.expression.Unary.{Unary}
use Rattle.idl_tree.specs.declared.expression.UnaryOperator.{UnaryOperator}
use Rattle.idl_tree.specs.declared.expression.UnaryOperator.TheVariants as unary
use Rattle.idl_tree.specs.declared.literal.Literal.{Literal}
use Rattle.idl_tree.specs.declared.literal.Literal.TheVariants as literal

-- literal = integer | character | wide character | text | "TRUE" | "FALSE"
abbrev pub spell_literal : Literal → Lexemes
spell_literal (literal.Integer n) = Integer n ∷ []
spell_literal (literal.Character c) = Character c ∷ []
spell_literal (literal.WideCharacter c) = WideCharacter c ∷ []
spell_literal (literal.Text pieces) = spell_all (λ piece. Text piece ∷ []) pieces
spell_literal (literal.WideText pieces) = spell_all (λ piece. WideText piece ∷ []) pieces
spell_literal literal.True = Word word.True ∷ []
spell_literal literal.False = Word word.False ∷ []

abbrev pub shift_mark : ShiftOperator → Mark
shift_mark Left = mark.ShiftLeft
shift_mark Right = mark.ShiftRight

abbrev pub sum_mark : SumOperator → Mark
sum_mark sum.Plus = mark.Plus
sum_mark sum.Minus = mark.Minus

abbrev pub product_mark : ProductOperator → Mark
product_mark Times = mark.Star
product_mark Divided = mark.Slash
product_mark Remainder = mark.Percent

abbrev pub spell_unary_operator : Option UnaryOperator → Lexemes
spell_unary_operator None = []
spell_unary_operator (Some unary.Minus) = Punctuation mark.Minus ∷ []
spell_unary_operator (Some unary.Plus) = Punctuation mark.Plus ∷ []
spell_unary_operator (Some unary.Complement) = Punctuation mark.Tilde ∷ []

-- primary = name | literal | "(" expr ")"
abbrev pub primary_step : Primary-F Lexemes Lexemes Lexemes Lexemes
    Lexemes Lexemes Lexemes Lexemes → Lexemes
primary_step (Primary-F.Name n) = spell_name n
primary_step (Primary-F.Literal l) = spell_literal l
primary_step (Primary-F.Parentheses inner) =
    Punctuation mark.OpenParenthesis ∷ (inner ++ Punctuation mark.CloseParenthesis ∷ [])

-- at most one of - + ~ ; primary
abbrev pub unary_step : Unary-F Lexemes Lexemes Lexemes Lexemes
    Lexemes Lexemes Lexemes Lexemes → Lexemes
unary_step u = spell_unary_operator u.operator ++ u.operand

-- operands with * / % between them
abbrev pub product_step : Product-F Lexemes Lexemes Lexemes Lexemes
    Lexemes Lexemes Lexemes Lexemes → Lexemes
product_step p = p.first ++ flat_map (λ s. Punctuation (product_mark s.0) ∷ s.1) p.rest

-- operands with + - between them
abbrev pub sum_step : Sum-F Lexemes Lexemes Lexemes Lexemes
    Lexemes Lexemes Lexemes Lexemes → Lexemes
sum_step p = p.first ++ flat_map (λ s. Punctuation (sum_mark s.0) ∷ s.1) p.rest

-- operands with << >> between them
abbrev pub shift_step : Shift-F Lexemes Lexemes Lexemes Lexemes
    Lexemes Lexemes Lexemes Lexemes → Lexemes
shift_step p = p.first ++ flat_map (λ s. Punctuation (shift_mark s.0) ∷ s.1) p.rest

-- operands with & between them
abbrev pub and_step : And-F Lexemes Lexemes Lexemes Lexemes
    Lexemes Lexemes Lexemes Lexemes → Lexemes
and_step p = p.first ++ flat_map (λ operand. Punctuation mark.Ampersand ∷ operand) p.rest

-- operands with ^ between them
abbrev pub exclusive_or_step : ExclusiveOr-F Lexemes Lexemes Lexemes Lexemes
    Lexemes Lexemes Lexemes Lexemes → Lexemes
exclusive_or_step p = p.first ++ flat_map (λ operand. Punctuation mark.Caret ∷ operand) p.rest

-- operands with | between them
abbrev pub expression_step : Expression-F Lexemes Lexemes Lexemes Lexemes
    Lexemes Lexemes Lexemes Lexemes → Lexemes
expression_step p = p.first ++ flat_map (λ operand. Punctuation mark.Bar ∷ operand) p.rest

-- an expression
unfoldable pub spell_expression : Expression → Lexemes
spell_expression =
    fold-Expression Lexemes Lexemes Lexemes Lexemes Lexemes Lexemes Lexemes Lexemes
    primary_step and_step exclusive_or_step expression_step
    product_step shift_step sum_step unary_step

-- the ranks below
unfoldable pub spell_exclusive_or : ExclusiveOr → Lexemes
spell_exclusive_or =
    fold-ExclusiveOr Lexemes Lexemes Lexemes Lexemes Lexemes Lexemes Lexemes Lexemes
    primary_step and_step exclusive_or_step expression_step
    product_step shift_step sum_step unary_step

unfoldable pub spell_and : And → Lexemes
spell_and =
    fold-And Lexemes Lexemes Lexemes Lexemes Lexemes Lexemes Lexemes Lexemes
    primary_step and_step exclusive_or_step expression_step
    product_step shift_step sum_step unary_step

unfoldable pub spell_shift : Shift → Lexemes
spell_shift =
    fold-Shift Lexemes Lexemes Lexemes Lexemes Lexemes Lexemes Lexemes Lexemes
    primary_step and_step exclusive_or_step expression_step
    product_step shift_step sum_step unary_step

unfoldable pub spell_sum : Sum → Lexemes
spell_sum =
    fold-Sum Lexemes Lexemes Lexemes Lexemes Lexemes Lexemes Lexemes Lexemes
    primary_step and_step exclusive_or_step expression_step
    product_step shift_step sum_step unary_step

unfoldable pub spell_product : Product → Lexemes
spell_product =
    fold-Product Lexemes Lexemes Lexemes Lexemes Lexemes Lexemes Lexemes Lexemes
    primary_step and_step exclusive_or_step expression_step
    product_step shift_step sum_step unary_step

unfoldable pub spell_unary : Unary → Lexemes
spell_unary =
    fold-Unary Lexemes Lexemes Lexemes Lexemes Lexemes Lexemes Lexemes Lexemes
    primary_step and_step exclusive_or_step expression_step
    product_step shift_step sum_step unary_step

unfoldable pub spell_primary : Primary → Lexemes
spell_primary =
    fold-Primary Lexemes Lexemes Lexemes Lexemes Lexemes Lexemes Lexemes Lexemes
    primary_step and_step exclusive_or_step expression_step
    product_step shift_step sum_step unary_step
