-- The spelling of a tree by those of its parts.
use Rattle.std.proofs.Common.{◌≡◌, ◌∙◌, List, [], ◌∷◌, ◌++◌, flat_map, map, Option, refl, sym, ap}
use Rattle.idl_lex.specs.declared.kinds.mark.Mark.TheVariants as mark
use Rattle.idl_tree.specs.Expression.{primary_step, and_step, exclusive_or_step, expression_step, product_step, shift_step, sum_step, unary_step, product_mark, sum_mark, shift_mark, spell_unary_operator, spell_expression, spell_exclusive_or, spell_and, spell_shift, spell_sum, spell_product, spell_unary, spell_primary, spell_literal}
use Rattle.idl_tree.specs.Lexeme.{Lexemes, Punctuation}
use Rattle.idl_tree.specs.Name.{spell_name}
use Rattle.idl_tree.specs.reading.ReadExpression.{made_unary, made_product, made_sum, made_shift, made_and, made_exclusive_or, made_expression}
use Rattle.idl_tree.specs.declared.expression.And.{And}
use Rattle.idl_tree.specs.declared.expression.ExclusiveOr.{ExclusiveOr}
use Rattle.idl_tree.specs.declared.expression.Expression.{Expression}
use Rattle.idl_tree.specs.declared.expression.Primary.{Primary, fold-Primary}
use Rattle.idl_tree.specs.declared.expression.Primary.TheFolds.{fold-roll-Primary, fold-roll-And, fold-roll-ExclusiveOr, fold-roll-Expression, fold-roll-Product, fold-roll-Shift, fold-roll-Sum, fold-roll-Unary}
use Rattle.idl_tree.specs.declared.expression.Primary.TheOpen.{Primary-F}
use Rattle.idl_tree.specs.declared.expression.Primary.TheVariants.{rolls-Name, rolls-Literal, rolls-Parentheses}
use Rattle.idl_tree.specs.declared.expression.Primary.TheVariants as primary
use Rattle.idl_tree.specs.declared.expression.Product.{Product}
use Rattle.idl_tree.specs.declared.expression.ProductOperator.{ProductOperator}
use Rattle.idl_tree.specs.declared.expression.Shift.{Shift}
use Rattle.idl_tree.specs.declared.expression.ShiftOperator.{ShiftOperator}
use Rattle.idl_tree.specs.declared.expression.Sum.{Sum}
use Rattle.idl_tree.specs.declared.expression.SumOperator.{SumOperator}
use Rattle.idl_tree.specs.declared.expression.Unary.{Unary}
use Rattle.idl_tree.specs.declared.expression.UnaryOperator.{UnaryOperator}
use Rattle.idl_tree.specs.declared.literal.Literal.{Literal}
use Rattle.idl_tree.specs.declared.name.ScopedName.{ScopedName}
use Rattle.idl_tree.proofs.Many.{many_spell}

pub flat_map-map : {A B : Type 0} (f : B → Lexemes) (g : A → B) (xs : List A) → flat_map f (map g xs) ≡ many_spell (λ x. f (g x)) xs
flat_map-map f g [] = refl
flat_map-map f g (x ∷ xs) = ap (λ (w : Lexemes). f (g x) ++ w) (flat_map-map f g xs)

pub spell_unary-made : (o : Option UnaryOperator) (p : Primary) → spell_unary (made_unary o p) ≡ spell_unary_operator o ++ spell_primary p
unfolding spell_unary spell_primary
spell_unary-made o p = fold-roll-Unary Lexemes Lexemes Lexemes Lexemes Lexemes Lexemes Lexemes Lexemes primary_step and_step exclusive_or_step expression_step product_step shift_step sum_step unary_step (record { operator = o; operand = p })

pub spell_product-made : (x : Unary) (xs : List (ProductOperator × Unary)) → spell_product (made_product x xs) ≡ spell_unary x ++ many_spell (λ s. Punctuation (product_mark s.0) ∷ spell_unary s.1) xs
unfolding spell_product spell_unary
spell_product-made x xs =
    fold-roll-Product Lexemes Lexemes Lexemes Lexemes Lexemes Lexemes Lexemes Lexemes primary_step and_step exclusive_or_step expression_step product_step shift_step sum_step unary_step (record { first = x; rest = xs })
    ∙ ap (λ (w : Lexemes). spell_unary x ++ w) (flat_map-map (λ s. Punctuation (product_mark s.0) ∷ s.1) _ xs)

pub spell_sum-made : (x : Product) (xs : List (SumOperator × Product)) → spell_sum (made_sum x xs) ≡ spell_product x ++ many_spell (λ s. Punctuation (sum_mark s.0) ∷ spell_product s.1) xs
unfolding spell_sum spell_product
spell_sum-made x xs =
    fold-roll-Sum Lexemes Lexemes Lexemes Lexemes Lexemes Lexemes Lexemes Lexemes primary_step and_step exclusive_or_step expression_step product_step shift_step sum_step unary_step (record { first = x; rest = xs })
    ∙ ap (λ (w : Lexemes). spell_product x ++ w) (flat_map-map (λ s. Punctuation (sum_mark s.0) ∷ s.1) _ xs)

pub spell_shift-made : (x : Sum) (xs : List (ShiftOperator × Sum)) → spell_shift (made_shift x xs) ≡ spell_sum x ++ many_spell (λ s. Punctuation (shift_mark s.0) ∷ spell_sum s.1) xs
unfolding spell_shift spell_sum
spell_shift-made x xs =
    fold-roll-Shift Lexemes Lexemes Lexemes Lexemes Lexemes Lexemes Lexemes Lexemes primary_step and_step exclusive_or_step expression_step product_step shift_step sum_step unary_step (record { first = x; rest = xs })
    ∙ ap (λ (w : Lexemes). spell_sum x ++ w) (flat_map-map (λ s. Punctuation (shift_mark s.0) ∷ s.1) _ xs)

pub spell_and-made : (x : Shift) (xs : List Shift) → spell_and (made_and x xs) ≡ spell_shift x ++ many_spell (λ s. Punctuation mark.Ampersand ∷ spell_shift s) xs
unfolding spell_and spell_shift
spell_and-made x xs =
    fold-roll-And Lexemes Lexemes Lexemes Lexemes Lexemes Lexemes Lexemes Lexemes primary_step and_step exclusive_or_step expression_step product_step shift_step sum_step unary_step (record { first = x; rest = xs })
    ∙ ap (λ (w : Lexemes). spell_shift x ++ w) (flat_map-map (λ w. Punctuation mark.Ampersand ∷ w) _ xs)

pub spell_exclusive_or-made : (x : And) (xs : List And) → spell_exclusive_or (made_exclusive_or x xs) ≡ spell_and x ++ many_spell (λ s. Punctuation mark.Caret ∷ spell_and s) xs
unfolding spell_exclusive_or spell_and
spell_exclusive_or-made x xs =
    fold-roll-ExclusiveOr Lexemes Lexemes Lexemes Lexemes Lexemes Lexemes Lexemes Lexemes primary_step and_step exclusive_or_step expression_step product_step shift_step sum_step unary_step (record { first = x; rest = xs })
    ∙ ap (λ (w : Lexemes). spell_and x ++ w) (flat_map-map (λ w. Punctuation mark.Caret ∷ w) _ xs)

pub spell_expression-made : (x : ExclusiveOr) (xs : List ExclusiveOr) → spell_expression (made_expression x xs) ≡ spell_exclusive_or x ++ many_spell (λ s. Punctuation mark.Bar ∷ spell_exclusive_or s) xs
unfolding spell_expression spell_exclusive_or
spell_expression-made x xs =
    fold-roll-Expression Lexemes Lexemes Lexemes Lexemes Lexemes Lexemes Lexemes Lexemes primary_step and_step exclusive_or_step expression_step product_step shift_step sum_step unary_step (record { first = x; rest = xs })
    ∙ ap (λ (w : Lexemes). spell_exclusive_or x ++ w) (flat_map-map (λ w. Punctuation mark.Bar ∷ w) _ xs)

pub spell_primary-name : (n : ScopedName) → spell_primary (primary.Name n) ≡ spell_name n
unfolding spell_primary
spell_primary-name n = ap (fold-Primary Lexemes Lexemes Lexemes Lexemes Lexemes Lexemes Lexemes Lexemes primary_step and_step exclusive_or_step expression_step product_step shift_step sum_step unary_step) (sym (rolls-Name n)) ∙ fold-roll-Primary Lexemes Lexemes Lexemes Lexemes Lexemes Lexemes Lexemes Lexemes primary_step and_step exclusive_or_step expression_step product_step shift_step sum_step unary_step (Primary-F.Name n)

pub spell_primary-literal : (l : Literal) → spell_primary (primary.Literal l) ≡ spell_literal l
unfolding spell_primary
spell_primary-literal l = ap (fold-Primary Lexemes Lexemes Lexemes Lexemes Lexemes Lexemes Lexemes Lexemes primary_step and_step exclusive_or_step expression_step product_step shift_step sum_step unary_step) (sym (rolls-Literal l)) ∙ fold-roll-Primary Lexemes Lexemes Lexemes Lexemes Lexemes Lexemes Lexemes Lexemes primary_step and_step exclusive_or_step expression_step product_step shift_step sum_step unary_step (Primary-F.Literal l)

pub spell_primary-parentheses : (e : Expression) → spell_primary (primary.Parentheses e) ≡ Punctuation mark.OpenParenthesis ∷ (spell_expression e ++ Punctuation mark.CloseParenthesis ∷ [])
unfolding spell_primary spell_expression
spell_primary-parentheses e = ap (fold-Primary Lexemes Lexemes Lexemes Lexemes Lexemes Lexemes Lexemes Lexemes primary_step and_step exclusive_or_step expression_step product_step shift_step sum_step unary_step) (sym (rolls-Parentheses e)) ∙ fold-roll-Primary Lexemes Lexemes Lexemes Lexemes Lexemes Lexemes Lexemes Lexemes primary_step and_step exclusive_or_step expression_step product_step shift_step sum_step unary_step (Primary-F.Parentheses e)
