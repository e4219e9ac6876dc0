-- The terms of expressions by those of their operands.
use Rattle.std.proofs.Common.{◌≡◌, ◌∙◌, List, [], ◌∷◌, Option, map, ap, refl, sym}
use Rattle.idl_tree.specs.reading.ReadExpression.{made_and, made_exclusive_or, made_expression, made_product, made_shift, made_sum, made_unary}
use Rattle.idl_tree.specs.declared.expression.And.{And, out-And}
use Rattle.idl_tree.specs.declared.expression.ExclusiveOr.{ExclusiveOr, out-ExclusiveOr}
use Rattle.idl_tree.specs.declared.expression.Expression.{Expression, out-Expression}
use Rattle.idl_tree.specs.declared.expression.Primary.{Primary, fold-Primary}
use Rattle.idl_tree.specs.declared.expression.Primary.TheFolds.{fold-roll-Primary, fold_out-And, fold_out-ExclusiveOr, fold_out-Expression, fold_out-Product, fold_out-Shift, fold_out-Sum, fold_out-Unary, fold-roll-And, fold-roll-ExclusiveOr, fold-roll-Expression, fold-roll-Product, fold-roll-Shift, fold-roll-Sum, fold-roll-Unary}
use Rattle.idl_tree.specs.declared.expression.Primary.TheOpen.{Primary-F}
use Rattle.idl_tree.specs.declared.expression.Primary.TheVariants.{rolls-Name, rolls-Literal, rolls-Parentheses}
use Rattle.idl_tree.specs.declared.expression.Primary.TheVariants as primary
use Rattle.idl_tree.specs.declared.expression.Product.{Product, out-Product}
use Rattle.idl_tree.specs.declared.expression.ProductOperator.{ProductOperator}
use Rattle.idl_tree.specs.declared.expression.Shift.{Shift, out-Shift}
use Rattle.idl_tree.specs.declared.expression.ShiftOperator.{ShiftOperator}
use Rattle.idl_tree.specs.declared.expression.Sum.{Sum, out-Sum}
use Rattle.idl_tree.specs.declared.expression.SumOperator.{SumOperator}
use Rattle.idl_tree.specs.declared.expression.Unary.{Unary, out-Unary}
use Rattle.idl_tree.specs.declared.expression.UnaryOperator.{UnaryOperator}
use Rattle.idl_tree.specs.declared.literal.Literal.{Literal}
use Rattle.idl_tree.specs.declared.name.ScopedName.{ScopedName}
use Rattle.idl_value.specs.Term.{Term, Named, Literally, Parenthesised, Chain, Links, Link, links, before_last, signed, shift_operator, sum_operator, product_operator, primary_step, and_step, exclusive_or_step, expression_step, product_step, shift_step, sum_step, unary_step, expression_term, exclusive_or_term, and_term, shift_term, sum_term, product_term, unary_term, primary_term}
use Rattle.idl_value.specs.declared.operator.BinaryOperator.{BinaryOperator}
use Rattle.idl_value.specs.declared.operator.BinaryOperator.TheVariants as operator

-- links of what was made of others
pub links-map : {X Y : Type 0} (op : Y → BinaryOperator) (term : Y → Term) (g : X → Y) (xs : List X)
    → links op term (map g xs) ≡ links (λ x. op (g x)) (λ x. term (g x)) xs
links-map op term g [] = refl
links-map op term g (x ∷ xs) = ap (λ (ls : Links). Link (op (g x)) (term (g x)) ls) (links-map op term g xs)

pub expression_term-out : (x : Expression) → expression_term x ≡ Chain (exclusive_or_term (out-Expression x).first) (links (λ s. operator.Or) exclusive_or_term (out-Expression x).rest)
unfolding expression_term exclusive_or_term
expression_term-out x =
    fold_out-Expression Term Term Term Term Term Term Term Term primary_step and_step exclusive_or_step expression_step product_step shift_step sum_step unary_step x
    ∙ ap (λ (ls : Links). Chain (exclusive_or_term (out-Expression x).first) ls) (links-map (λ s. operator.Or) (λ s. s) _ (out-Expression x).rest)

pub expression_term-made : (x : ExclusiveOr) (xs : List ExclusiveOr) → expression_term (made_expression x xs) ≡ Chain (exclusive_or_term x) (links (λ s. operator.Or) exclusive_or_term xs)
unfolding expression_term exclusive_or_term
expression_term-made x xs =
    fold-roll-Expression Term Term Term Term Term Term Term Term primary_step and_step exclusive_or_step expression_step product_step shift_step sum_step unary_step (record { first = x; rest = xs })
    ∙ ap (λ (ls : Links). Chain (exclusive_or_term x) ls) (links-map (λ s. operator.Or) (λ s. s) _ xs)

pub exclusive_or_term-out : (x : ExclusiveOr) → exclusive_or_term x ≡ Chain (and_term (out-ExclusiveOr x).first) (links (λ s. operator.ExclusiveOr) and_term (out-ExclusiveOr x).rest)
unfolding exclusive_or_term and_term
exclusive_or_term-out x =
    fold_out-ExclusiveOr Term Term Term Term Term Term Term Term primary_step and_step exclusive_or_step expression_step product_step shift_step sum_step unary_step x
    ∙ ap (λ (ls : Links). Chain (and_term (out-ExclusiveOr x).first) ls) (links-map (λ s. operator.ExclusiveOr) (λ s. s) _ (out-ExclusiveOr x).rest)

pub exclusive_or_term-made : (x : And) (xs : List And) → exclusive_or_term (made_exclusive_or x xs) ≡ Chain (and_term x) (links (λ s. operator.ExclusiveOr) and_term xs)
unfolding exclusive_or_term and_term
exclusive_or_term-made x xs =
    fold-roll-ExclusiveOr Term Term Term Term Term Term Term Term primary_step and_step exclusive_or_step expression_step product_step shift_step sum_step unary_step (record { first = x; rest = xs })
    ∙ ap (λ (ls : Links). Chain (and_term x) ls) (links-map (λ s. operator.ExclusiveOr) (λ s. s) _ xs)

pub and_term-out : (x : And) → and_term x ≡ Chain (shift_term (out-And x).first) (links (λ s. operator.And) shift_term (out-And x).rest)
unfolding and_term shift_term
and_term-out x =
    fold_out-And Term Term Term Term Term Term Term Term primary_step and_step exclusive_or_step expression_step product_step shift_step sum_step unary_step x
    ∙ ap (λ (ls : Links). Chain (shift_term (out-And x).first) ls) (links-map (λ s. operator.And) (λ s. s) _ (out-And x).rest)

pub and_term-made : (x : Shift) (xs : List Shift) → and_term (made_and x xs) ≡ Chain (shift_term x) (links (λ s. operator.And) shift_term xs)
unfolding and_term shift_term
and_term-made x xs =
    fold-roll-And Term Term Term Term Term Term Term Term primary_step and_step exclusive_or_step expression_step product_step shift_step sum_step unary_step (record { first = x; rest = xs })
    ∙ ap (λ (ls : Links). Chain (shift_term x) ls) (links-map (λ s. operator.And) (λ s. s) _ xs)

pub shift_term-out : (x : Shift) → shift_term x ≡ Chain (sum_term (out-Shift x).first) (links (λ s. shift_operator s.0) (λ s. sum_term s.1) (out-Shift x).rest)
unfolding shift_term sum_term
shift_term-out x =
    fold_out-Shift Term Term Term Term Term Term Term Term primary_step and_step exclusive_or_step expression_step product_step shift_step sum_step unary_step x
    ∙ ap (λ (ls : Links). Chain (sum_term (out-Shift x).first) ls) (links-map (λ s. shift_operator s.0) (λ s. s.1) _ (out-Shift x).rest)

pub shift_term-made : (x : Sum) (xs : List (ShiftOperator × Sum)) → shift_term (made_shift x xs) ≡ Chain (sum_term x) (links (λ s. shift_operator s.0) (λ s. sum_term s.1) xs)
unfolding shift_term sum_term
shift_term-made x xs =
    fold-roll-Shift Term Term Term Term Term Term Term Term primary_step and_step exclusive_or_step expression_step product_step shift_step sum_step unary_step (record { first = x; rest = xs })
    ∙ ap (λ (ls : Links). Chain (sum_term x) ls) (links-map (λ s. shift_operator s.0) (λ s. s.1) _ xs)

pub sum_term-out : (x : Sum) → sum_term x ≡ Chain (product_term (out-Sum x).first) (links (λ s. sum_operator s.0) (λ s. product_term s.1) (out-Sum x).rest)
unfolding sum_term product_term
sum_term-out x =
    fold_out-Sum Term Term Term Term Term Term Term Term primary_step and_step exclusive_or_step expression_step product_step shift_step sum_step unary_step x
    ∙ ap (λ (ls : Links). Chain (product_term (out-Sum x).first) ls) (links-map (λ s. sum_operator s.0) (λ s. s.1) _ (out-Sum x).rest)

pub sum_term-made : (x : Product) (xs : List (SumOperator × Product)) → sum_term (made_sum x xs) ≡ Chain (product_term x) (links (λ s. sum_operator s.0) (λ s. product_term s.1) xs)
unfolding sum_term product_term
sum_term-made x xs =
    fold-roll-Sum Term Term Term Term Term Term Term Term primary_step and_step exclusive_or_step expression_step product_step shift_step sum_step unary_step (record { first = x; rest = xs })
    ∙ ap (λ (ls : Links). Chain (product_term x) ls) (links-map (λ s. sum_operator s.0) (λ s. s.1) _ xs)

pub product_term-out : (x : Product) → product_term x ≡ Chain (unary_term (out-Product x).first) (links (λ s. product_operator s.0) (λ s. unary_term s.1) (out-Product x).rest)
unfolding product_term unary_term
product_term-out x =
    fold_out-Product Term Term Term Term Term Term Term Term primary_step and_step exclusive_or_step expression_step product_step shift_step sum_step unary_step x
    ∙ ap (λ (ls : Links). Chain (unary_term (out-Product x).first) ls) (links-map (λ s. product_operator s.0) (λ s. s.1) _ (out-Product x).rest)

pub product_term-made : (x : Unary) (xs : List (ProductOperator × Unary)) → product_term (made_product x xs) ≡ Chain (unary_term x) (links (λ s. product_operator s.0) (λ s. unary_term s.1) xs)
unfolding product_term unary_term
product_term-made x xs =
    fold-roll-Product Term Term Term Term Term Term Term Term primary_step and_step exclusive_or_step expression_step product_step shift_step sum_step unary_step (record { first = x; rest = xs })
    ∙ ap (λ (ls : Links). Chain (unary_term x) ls) (links-map (λ s. product_operator s.0) (λ s. s.1) _ xs)

pub unary_term-out : (x : Unary) → unary_term x ≡ signed (out-Unary x).operator (primary_term (out-Unary x).operand)
unfolding unary_term primary_term
unary_term-out x = fold_out-Unary Term Term Term Term Term Term Term Term primary_step and_step exclusive_or_step expression_step product_step shift_step sum_step unary_step x

pub unary_term-made : (o : Option UnaryOperator) (p : Primary) → unary_term (made_unary o p) ≡ signed o (primary_term p)
unfolding unary_term primary_term
unary_term-made o p = fold-roll-Unary Term Term Term Term Term Term Term Term primary_step and_step exclusive_or_step expression_step product_step shift_step sum_step unary_step (record { operator = o; operand = p })

pub primary_term-name : (x : ScopedName) → primary_term (primary.Name x) ≡ Named (before_last x)
unfolding primary_term
primary_term-name x =
    ap (fold-Primary Term Term Term Term Term Term Term Term primary_step and_step exclusive_or_step expression_step product_step shift_step sum_step unary_step) (sym (rolls-Name x))
    ∙ fold-roll-Primary Term Term Term Term Term Term Term Term primary_step and_step exclusive_or_step expression_step product_step shift_step sum_step unary_step (Primary-F.Name x)

pub primary_term-literal : (x : Literal) → primary_term (primary.Literal x) ≡ Literally x
unfolding primary_term
primary_term-literal x =
    ap (fold-Primary Term Term Term Term Term Term Term Term primary_step and_step exclusive_or_step expression_step product_step shift_step sum_step unary_step) (sym (rolls-Literal x))
    ∙ fold-roll-Primary Term Term Term Term Term Term Term Term primary_step and_step exclusive_or_step expression_step product_step shift_step sum_step unary_step (Primary-F.Literal x)

pub primary_term-parentheses : (x : Expression) → primary_term (primary.Parentheses x) ≡ Parenthesised (expression_term x)
unfolding primary_term expression_term
primary_term-parentheses x =
    ap (fold-Primary Term Term Term Term Term Term Term Term primary_step and_step exclusive_or_step expression_step product_step shift_step sum_step unary_step) (sym (rolls-Parentheses x))
    ∙ fold-roll-Primary Term Term Term Term Term Term Term Term primary_step and_step exclusive_or_step expression_step product_step shift_step sum_step unary_step (Primary-F.Parentheses x)
