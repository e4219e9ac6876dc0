-- The parts of expressions by those of their operands.
use Rattle.std.proofs.Common.{◌≡◌, ◌∙◌, List, [], ◌∷◌, ◌++◌, Option, flat_map, ap, sym}
use Rattle.std.proofs.lemmas.List.Folds.{flat_map-map}
use Rattle.idl_lex.specs.declared.kinds.mark.Mark.TheVariants as mark
use Rattle.idl_parts.specs.ExpressionParts.{and_parts, and_step, exclusive_or_parts, exclusive_or_step, expression_parts, expression_step, operator_parts, primary_parts, primary_step, product_parts, product_step, shift_parts, shift_step, sum_parts, sum_step, unary_parts, unary_step}
use Rattle.idl_parts.specs.Part.{Parts, Plain, Uses, punctuation}
use Rattle.idl_parts.specs.declared.part.Use.TheVariants.{AsOperand}
use Rattle.idl_tree.specs.Expression.{product_mark, shift_mark, spell_literal, sum_mark}
use Rattle.idl_tree.specs.reading.ReadExpression.{made_and, made_exclusive_or, made_expression, made_product, made_shift, made_sum, made_unary}
use Rattle.idl_tree.specs.declared.expression.And.{And, out-And}
use Rattle.idl_tree.specs.declared.expression.ExclusiveOr.{ExclusiveOr, out-ExclusiveOr}
use Rattle.idl_tree.specs.declared.expression.Expression.{Expression, out-Expression}
use Rattle.idl_tree.specs.declared.expression.Product.{Product, out-Product}
use Rattle.idl_tree.specs.declared.expression.Shift.{Shift, out-Shift}
use Rattle.idl_tree.specs.declared.expression.Sum.{Sum, out-Sum}
use Rattle.idl_tree.specs.declared.expression.Primary.{Primary, fold-Primary}
use Rattle.idl_tree.specs.declared.expression.Primary.TheFolds.{fold-roll-Primary, fold_out-And, fold_out-ExclusiveOr, fold_out-Expression, fold_out-Product, fold_out-Shift, fold_out-Sum, fold_out-Unary, fold-roll-And, fold-roll-ExclusiveOr, fold-roll-Expression, fold-roll-Product, fold-roll-Shift, fold-roll-Sum, fold-roll-Unary}
use Rattle.idl_tree.specs.declared.expression.Primary.TheOpen.{Primary-F}
use Rattle.idl_tree.specs.declared.expression.Primary.TheVariants.{rolls-Name, rolls-Literal, rolls-Parentheses}
use Rattle.idl_tree.specs.declared.expression.Primary.TheVariants as primary
use Rattle.idl_tree.specs.declared.expression.Unary.{Unary, out-Unary}
use Rattle.idl_tree.specs.declared.expression.ProductOperator.{ProductOperator}
use Rattle.idl_tree.specs.declared.expression.ShiftOperator.{ShiftOperator}
use Rattle.idl_tree.specs.declared.expression.SumOperator.{SumOperator}
use Rattle.idl_tree.specs.declared.expression.UnaryOperator.{UnaryOperator}
use Rattle.idl_tree.specs.declared.literal.Literal.{Literal}
use Rattle.idl_tree.specs.declared.name.ScopedName.{ScopedName}

pub expression_parts-out : (x : Expression) → expression_parts x ≡ exclusive_or_parts (out-Expression x).first ++ flat_map (λ operand. punctuation mark.Bar ∷ exclusive_or_parts operand) (out-Expression x).rest
unfolding expression_parts exclusive_or_parts
expression_parts-out x =
    fold_out-Expression Parts Parts Parts Parts Parts Parts Parts Parts primary_step and_step exclusive_or_step expression_step product_step shift_step sum_step unary_step x
    ∙ ap (λ (w : Parts). exclusive_or_parts (out-Expression x).first ++ w) (flat_map-map (λ operand. punctuation mark.Bar ∷ operand) _ (out-Expression x).rest)

pub exclusive_or_parts-out : (x : ExclusiveOr) → exclusive_or_parts x ≡ and_parts (out-ExclusiveOr x).first ++ flat_map (λ operand. punctuation mark.Caret ∷ and_parts operand) (out-ExclusiveOr x).rest
unfolding exclusive_or_parts and_parts
exclusive_or_parts-out x =
    fold_out-ExclusiveOr Parts Parts Parts Parts Parts Parts Parts Parts primary_step and_step exclusive_or_step expression_step product_step shift_step sum_step unary_step x
    ∙ ap (λ (w : Parts). and_parts (out-ExclusiveOr x).first ++ w) (flat_map-map (λ operand. punctuation mark.Caret ∷ operand) _ (out-ExclusiveOr x).rest)

pub and_parts-out : (x : And) → and_parts x ≡ shift_parts (out-And x).first ++ flat_map (λ operand. punctuation mark.Ampersand ∷ shift_parts operand) (out-And x).rest
unfolding and_parts shift_parts
and_parts-out x =
    fold_out-And Parts Parts Parts Parts Parts Parts Parts Parts primary_step and_step exclusive_or_step expression_step product_step shift_step sum_step unary_step x
    ∙ ap (λ (w : Parts). shift_parts (out-And x).first ++ w) (flat_map-map (λ operand. punctuation mark.Ampersand ∷ operand) _ (out-And x).rest)

pub shift_parts-out : (x : Shift) → shift_parts x ≡ sum_parts (out-Shift x).first ++ flat_map (λ s. punctuation (shift_mark s.0) ∷ sum_parts s.1) (out-Shift x).rest
unfolding shift_parts sum_parts
shift_parts-out x =
    fold_out-Shift Parts Parts Parts Parts Parts Parts Parts Parts primary_step and_step exclusive_or_step expression_step product_step shift_step sum_step unary_step x
    ∙ ap (λ (w : Parts). sum_parts (out-Shift x).first ++ w) (flat_map-map (λ s. punctuation (shift_mark s.0) ∷ s.1) _ (out-Shift x).rest)

pub sum_parts-out : (x : Sum) → sum_parts x ≡ product_parts (out-Sum x).first ++ flat_map (λ s. punctuation (sum_mark s.0) ∷ product_parts s.1) (out-Sum x).rest
unfolding sum_parts product_parts
sum_parts-out x =
    fold_out-Sum Parts Parts Parts Parts Parts Parts Parts Parts primary_step and_step exclusive_or_step expression_step product_step shift_step sum_step unary_step x
    ∙ ap (λ (w : Parts). product_parts (out-Sum x).first ++ w) (flat_map-map (λ s. punctuation (sum_mark s.0) ∷ s.1) _ (out-Sum x).rest)

pub product_parts-out : (x : Product) → product_parts x ≡ unary_parts (out-Product x).first ++ flat_map (λ s. punctuation (product_mark s.0) ∷ unary_parts s.1) (out-Product x).rest
unfolding product_parts unary_parts
product_parts-out x =
    fold_out-Product Parts Parts Parts Parts Parts Parts Parts Parts primary_step and_step exclusive_or_step expression_step product_step shift_step sum_step unary_step x
    ∙ ap (λ (w : Parts). unary_parts (out-Product x).first ++ w) (flat_map-map (λ s. punctuation (product_mark s.0) ∷ s.1) _ (out-Product x).rest)

pub unary_parts-out : (x : Unary) → unary_parts x ≡ operator_parts (out-Unary x).operator ++ primary_parts (out-Unary x).operand
unfolding unary_parts primary_parts
unary_parts-out x = fold_out-Unary Parts Parts Parts Parts Parts Parts Parts Parts primary_step and_step exclusive_or_step expression_step product_step shift_step sum_step unary_step x

pub primary_parts-name : (n : ScopedName) → primary_parts (primary.Name n) ≡ Uses AsOperand n ∷ []
unfolding primary_parts
primary_parts-name n =
    ap (fold-Primary Parts Parts Parts Parts Parts Parts Parts Parts primary_step and_step exclusive_or_step expression_step product_step shift_step sum_step unary_step) (sym (rolls-Name n))
    ∙ fold-roll-Primary Parts Parts Parts Parts Parts Parts Parts Parts primary_step and_step exclusive_or_step expression_step product_step shift_step sum_step unary_step (Primary-F.Name n)

pub primary_parts-literal : (l : Literal) → primary_parts (primary.Literal l) ≡ Plain (spell_literal l) ∷ []
unfolding primary_parts
primary_parts-literal l =
    ap (fold-Primary Parts Parts Parts Parts Parts Parts Parts Parts primary_step and_step exclusive_or_step expression_step product_step shift_step sum_step unary_step) (sym (rolls-Literal l))
    ∙ fold-roll-Primary Parts Parts Parts Parts Parts Parts Parts Parts primary_step and_step exclusive_or_step expression_step product_step shift_step sum_step unary_step (Primary-F.Literal l)

pub primary_parts-parentheses : (e : Expression) → primary_parts (primary.Parentheses e) ≡ punctuation mark.OpenParenthesis ∷ (expression_parts e ++ punctuation mark.CloseParenthesis ∷ [])
unfolding primary_parts expression_parts
primary_parts-parentheses e =
    ap (fold-Primary Parts Parts Parts Parts Parts Parts Parts Parts primary_step and_step exclusive_or_step expression_step product_step shift_step sum_step unary_step) (sym (rolls-Parentheses e))
    ∙ fold-roll-Primary Parts Parts Parts Parts Parts Parts Parts Parts primary_step and_step exclusive_or_step expression_step product_step shift_step sum_step unary_step (Primary-F.Parentheses e)

pub and_parts-made : (x : Shift) (xs : List Shift) → and_parts (made_and x xs) ≡ shift_parts x ++ flat_map (λ operand. punctuation mark.Ampersand ∷ shift_parts operand) xs
unfolding and_parts shift_parts
and_parts-made x xs =
    fold-roll-And Parts Parts Parts Parts Parts Parts Parts Parts primary_step and_step exclusive_or_step expression_step product_step shift_step sum_step unary_step (record { first = x; rest = xs })
    ∙ ap (λ (w : Parts). shift_parts x ++ w) (flat_map-map (λ operand. punctuation mark.Ampersand ∷ operand) _ xs)

pub exclusive_or_parts-made : (x : And) (xs : List And) → exclusive_or_parts (made_exclusive_or x xs) ≡ and_parts x ++ flat_map (λ operand. punctuation mark.Caret ∷ and_parts operand) xs
unfolding exclusive_or_parts and_parts
exclusive_or_parts-made x xs =
    fold-roll-ExclusiveOr Parts Parts Parts Parts Parts Parts Parts Parts primary_step and_step exclusive_or_step expression_step product_step shift_step sum_step unary_step (record { first = x; rest = xs })
    ∙ ap (λ (w : Parts). and_parts x ++ w) (flat_map-map (λ operand. punctuation mark.Caret ∷ operand) _ xs)

pub expression_parts-made : (x : ExclusiveOr) (xs : List ExclusiveOr) → expression_parts (made_expression x xs) ≡ exclusive_or_parts x ++ flat_map (λ operand. punctuation mark.Bar ∷ exclusive_or_parts operand) xs
unfolding expression_parts exclusive_or_parts
expression_parts-made x xs =
    fold-roll-Expression Parts Parts Parts Parts Parts Parts Parts Parts primary_step and_step exclusive_or_step expression_step product_step shift_step sum_step unary_step (record { first = x; rest = xs })
    ∙ ap (λ (w : Parts). exclusive_or_parts x ++ w) (flat_map-map (λ operand. punctuation mark.Bar ∷ operand) _ xs)

pub product_parts-made : (x : Unary) (xs : List (ProductOperator × Unary)) → product_parts (made_product x xs) ≡ unary_parts x ++ flat_map (λ s. punctuation (product_mark s.0) ∷ unary_parts s.1) xs
unfolding product_parts unary_parts
product_parts-made x xs =
    fold-roll-Product Parts Parts Parts Parts Parts Parts Parts Parts primary_step and_step exclusive_or_step expression_step product_step shift_step sum_step unary_step (record { first = x; rest = xs })
    ∙ ap (λ (w : Parts). unary_parts x ++ w) (flat_map-map (λ s. punctuation (product_mark s.0) ∷ s.1) _ xs)

pub shift_parts-made : (x : Sum) (xs : List (ShiftOperator × Sum)) → shift_parts (made_shift x xs) ≡ sum_parts x ++ flat_map (λ s. punctuation (shift_mark s.0) ∷ sum_parts s.1) xs
unfolding shift_parts sum_parts
shift_parts-made x xs =
    fold-roll-Shift Parts Parts Parts Parts Parts Parts Parts Parts primary_step and_step exclusive_or_step expression_step product_step shift_step sum_step unary_step (record { first = x; rest = xs })
    ∙ ap (λ (w : Parts). sum_parts x ++ w) (flat_map-map (λ s. punctuation (shift_mark s.0) ∷ s.1) _ xs)

pub sum_parts-made : (x : Product) (xs : List (SumOperator × Product)) → sum_parts (made_sum x xs) ≡ product_parts x ++ flat_map (λ s. punctuation (sum_mark s.0) ∷ product_parts s.1) xs
unfolding sum_parts product_parts
sum_parts-made x xs =
    fold-roll-Sum Parts Parts Parts Parts Parts Parts Parts Parts primary_step and_step exclusive_or_step expression_step product_step shift_step sum_step unary_step (record { first = x; rest = xs })
    ∙ ap (λ (w : Parts). product_parts x ++ w) (flat_map-map (λ s. punctuation (sum_mark s.0) ∷ s.1) _ xs)

pub unary_parts-made : (o : Option UnaryOperator) (p : Primary) → unary_parts (made_unary o p) ≡ operator_parts o ++ primary_parts p
unfolding unary_parts primary_parts
unary_parts-made o p = fold-roll-Unary Parts Parts Parts Parts Parts Parts Parts Parts primary_step and_step exclusive_or_step expression_step product_step shift_step sum_step unary_step (record { operator = o; operand = p })
