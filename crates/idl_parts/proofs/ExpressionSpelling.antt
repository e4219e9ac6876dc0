-- The parts of an expression are spelled as it is.
use Rattle.std.proofs.Common.{◌≡◌, ◌∙◌, List, [], ◌∷◌, Option, None, Some, map, refl, sym, ap, subst}
use Rattle.std.proofs.lemmas.List.{append-nil}
use Rattle.idl_lex.specs.declared.kinds.mark.Mark.TheVariants as mark
use Rattle.idl_parts.specs.ExpressionParts.{and_parts, exclusive_or_parts, expression_parts, operator_parts, primary_parts, product_parts, shift_parts, sum_parts, unary_parts, value_parts}
use Rattle.idl_parts.specs.Part.{ValueEnds, punctuation, spell_parts}
use Rattle.idl_parts.specs.declared.part.Purpose.{Purpose}
use Rattle.idl_tree.proofs.SpellLemmas.{spell_and-made, spell_exclusive_or-made, spell_expression-made, spell_primary-literal, spell_primary-name, spell_primary-parentheses, spell_product-made, spell_shift-made, spell_sum-made, spell_unary-made}
use Rattle.idl_tree.specs.Expression.{product_mark, shift_mark, spell_and, spell_exclusive_or, spell_expression, spell_literal, spell_primary, spell_product, spell_shift, spell_sum, spell_unary, spell_unary_operator, sum_mark}
use Rattle.idl_tree.specs.Lexeme.{Lexemes, Punctuation}
use Rattle.idl_tree.specs.Name.{spell_name}
use Rattle.idl_tree.specs.reading.ReadExpression.{made_and, made_exclusive_or, made_expression, made_product, made_shift, made_sum, made_unary}
use Rattle.idl_tree.specs.declared.expression.And.{And, roll-And}
use Rattle.idl_tree.specs.declared.expression.ExclusiveOr.{ExclusiveOr, roll-ExclusiveOr}
use Rattle.idl_tree.specs.declared.expression.Expression.{Expression, roll-Expression}
use Rattle.idl_tree.specs.declared.expression.Primary.{Primary, roll-Primary}
use Rattle.idl_tree.specs.declared.expression.Primary.TheFolds.{ind-Expression, map-Primary}
use Rattle.idl_tree.specs.declared.expression.Primary.TheOpen.{Primary-F}
use Rattle.idl_tree.specs.declared.expression.Primary.TheVariants.{rolls-Literal, rolls-Name, rolls-Parentheses}
use Rattle.idl_tree.specs.declared.expression.Primary.TheVariants as primary
use Rattle.idl_tree.specs.declared.expression.Product.{Product, roll-Product}
use Rattle.idl_tree.specs.declared.expression.ProductOperator.{ProductOperator}
use Rattle.idl_tree.specs.declared.expression.Shift.{Shift, roll-Shift}
use Rattle.idl_tree.specs.declared.expression.ShiftOperator.{ShiftOperator}
use Rattle.idl_tree.specs.declared.expression.Sum.{Sum, roll-Sum}
use Rattle.idl_tree.specs.declared.expression.SumOperator.{SumOperator}
use Rattle.idl_tree.specs.declared.expression.Unary.{Unary, roll-Unary}
use Rattle.idl_tree.specs.declared.expression.UnaryOperator.{UnaryOperator}
use Rattle.idl_tree.specs.declared.literal.Literal.{Literal}
use Rattle.idl_tree.specs.declared.name.ScopedName.{ScopedName}
use Rattle.idl_parts.proofs.ExpressionEquations.{and_parts-made, exclusive_or_parts-made, expression_parts-made, primary_parts-literal, primary_parts-name, primary_parts-parentheses, product_parts-made, shift_parts-made, sum_parts-made, unary_parts-made}
use Rattle.idl_parts.proofs.PartSpelling.{spells-rank, spells-then}
use Rattle.idl_parts.proofs.Such.{Such}

-- the claims by which the induction goes
abbrev Ands : And → Type 0
Ands x = spell_parts (and_parts x) ≡ spell_and x

abbrev ExclusiveOrs : ExclusiveOr → Type 0
ExclusiveOrs x = spell_parts (exclusive_or_parts x) ≡ spell_exclusive_or x

abbrev Expressions : Expression → Type 0
Expressions x = spell_parts (expression_parts x) ≡ spell_expression x

abbrev Primaries : Primary → Type 0
Primaries x = spell_parts (primary_parts x) ≡ spell_primary x

abbrev Products : Product → Type 0
Products x = spell_parts (product_parts x) ≡ spell_product x

abbrev Shifts : Shift → Type 0
Shifts x = spell_parts (shift_parts x) ≡ spell_shift x

abbrev Sums : Sum → Type 0
Sums x = spell_parts (sum_parts x) ≡ spell_sum x

abbrev Unaries : Unary → Type 0
Unaries x = spell_parts (unary_parts x) ≡ spell_unary x

and_spells : (x : Such Shifts) (xs : List (Such Shifts)) → Ands (made_and x.0 (map (λ s. s.0) xs))
and_spells x xs =
    spells-rank (and_parts (made_and x.0 (map (λ s. s.0) xs))) (shift_parts x.0) (spell_and (made_and x.0 (map (λ s. s.0) xs))) (spell_shift x.0)
    (λ s. punctuation mark.Ampersand ∷ shift_parts s) (λ s. Punctuation mark.Ampersand ∷ spell_shift s) (λ s. s.0)
    (λ s. ap (λ (w : Lexemes). Punctuation mark.Ampersand ∷ w) s.1) xs
    (and_parts-made x.0 (map (λ s. s.0) xs)) (spell_and-made x.0 (map (λ s. s.0) xs)) x.1

exclusive_or_spells : (x : Such Ands) (xs : List (Such Ands)) → ExclusiveOrs (made_exclusive_or x.0 (map (λ s. s.0) xs))
exclusive_or_spells x xs =
    spells-rank (exclusive_or_parts (made_exclusive_or x.0 (map (λ s. s.0) xs))) (and_parts x.0) (spell_exclusive_or (made_exclusive_or x.0 (map (λ s. s.0) xs))) (spell_and x.0)
    (λ s. punctuation mark.Caret ∷ and_parts s) (λ s. Punctuation mark.Caret ∷ spell_and s) (λ s. s.0)
    (λ s. ap (λ (w : Lexemes). Punctuation mark.Caret ∷ w) s.1) xs
    (exclusive_or_parts-made x.0 (map (λ s. s.0) xs)) (spell_exclusive_or-made x.0 (map (λ s. s.0) xs)) x.1

expression_spells : (x : Such ExclusiveOrs) (xs : List (Such ExclusiveOrs)) → Expressions (made_expression x.0 (map (λ s. s.0) xs))
expression_spells x xs =
    spells-rank (expression_parts (made_expression x.0 (map (λ s. s.0) xs))) (exclusive_or_parts x.0) (spell_expression (made_expression x.0 (map (λ s. s.0) xs))) (spell_exclusive_or x.0)
    (λ s. punctuation mark.Bar ∷ exclusive_or_parts s) (λ s. Punctuation mark.Bar ∷ spell_exclusive_or s) (λ s. s.0)
    (λ s. ap (λ (w : Lexemes). Punctuation mark.Bar ∷ w) s.1) xs
    (expression_parts-made x.0 (map (λ s. s.0) xs)) (spell_expression-made x.0 (map (λ s. s.0) xs)) x.1

product_spells : (x : Such Unaries) (xs : List (ProductOperator × Such Unaries)) → Products (made_product x.0 (map (λ s. (s.0, s.1.0)) xs))
product_spells x xs =
    spells-rank (product_parts (made_product x.0 (map (λ s. (s.0, s.1.0)) xs))) (unary_parts x.0) (spell_product (made_product x.0 (map (λ s. (s.0, s.1.0)) xs))) (spell_unary x.0)
    (λ s. punctuation (product_mark s.0) ∷ unary_parts s.1) (λ s. Punctuation (product_mark s.0) ∷ spell_unary s.1) (λ s. (s.0, s.1.0))
    (λ s. ap (λ (w : Lexemes). Punctuation (product_mark s.0) ∷ w) s.1.1) xs
    (product_parts-made x.0 (map (λ s. (s.0, s.1.0)) xs)) (spell_product-made x.0 (map (λ s. (s.0, s.1.0)) xs)) x.1

shift_spells : (x : Such Sums) (xs : List (ShiftOperator × Such Sums)) → Shifts (made_shift x.0 (map (λ s. (s.0, s.1.0)) xs))
shift_spells x xs =
    spells-rank (shift_parts (made_shift x.0 (map (λ s. (s.0, s.1.0)) xs))) (sum_parts x.0) (spell_shift (made_shift x.0 (map (λ s. (s.0, s.1.0)) xs))) (spell_sum x.0)
    (λ s. punctuation (shift_mark s.0) ∷ sum_parts s.1) (λ s. Punctuation (shift_mark s.0) ∷ spell_sum s.1) (λ s. (s.0, s.1.0))
    (λ s. ap (λ (w : Lexemes). Punctuation (shift_mark s.0) ∷ w) s.1.1) xs
    (shift_parts-made x.0 (map (λ s. (s.0, s.1.0)) xs)) (spell_shift-made x.0 (map (λ s. (s.0, s.1.0)) xs)) x.1

sum_spells : (x : Such Products) (xs : List (SumOperator × Such Products)) → Sums (made_sum x.0 (map (λ s. (s.0, s.1.0)) xs))
sum_spells x xs =
    spells-rank (sum_parts (made_sum x.0 (map (λ s. (s.0, s.1.0)) xs))) (product_parts x.0) (spell_sum (made_sum x.0 (map (λ s. (s.0, s.1.0)) xs))) (spell_product x.0)
    (λ s. punctuation (sum_mark s.0) ∷ product_parts s.1) (λ s. Punctuation (sum_mark s.0) ∷ spell_product s.1) (λ s. (s.0, s.1.0))
    (λ s. ap (λ (w : Lexemes). Punctuation (sum_mark s.0) ∷ w) s.1.1) xs
    (sum_parts-made x.0 (map (λ s. (s.0, s.1.0)) xs)) (spell_sum-made x.0 (map (λ s. (s.0, s.1.0)) xs)) x.1

operator_spells : (o : Option UnaryOperator) → spell_parts (operator_parts o) ≡ spell_unary_operator o
operator_spells None = refl
operator_spells (Some o) = append-nil (spell_unary_operator (Some o))

unary_spells : (o : Option UnaryOperator) (p : Primary) → Primaries p → Unaries (made_unary o p)
unary_spells o p h =
    ap spell_parts (unary_parts-made o p)
    ∙ spells-then (operator_parts o) (primary_parts p) (spell_unary_operator o) (spell_primary p) (operator_spells o) h
    ∙ sym (spell_unary-made o p)

name_spells : (n : ScopedName) → Primaries (primary.Name n)
name_spells n = ap spell_parts (primary_parts-name n) ∙ append-nil (spell_name n) ∙ sym (spell_primary-name n)

literal_spells : (l : Literal) → Primaries (primary.Literal l)
literal_spells l = ap spell_parts (primary_parts-literal l) ∙ append-nil (spell_literal l) ∙ sym (spell_primary-literal l)

parentheses_spell : (e : Expression) → Expressions e → Primaries (primary.Parentheses e)
parentheses_spell e h =
    ap spell_parts (primary_parts-parentheses e)
    ∙ ap (λ (w : Lexemes). Punctuation mark.OpenParenthesis ∷ w)
    (spells-then (expression_parts e) (punctuation mark.CloseParenthesis ∷ []) (spell_expression e) (Punctuation mark.CloseParenthesis ∷ []) h refl)
    ∙ sym (spell_primary-parentheses e)

by_primary : (y : Primary-F (Such Primaries) (Such Ands) (Such ExclusiveOrs) (Such Expressions) (Such Products) (Such Shifts) (Such Sums) (Such Unaries))
    → Primaries (roll-Primary (map-Primary (Such Primaries) (Such Ands) (Such ExclusiveOrs) (Such Expressions) (Such Products) (Such Shifts) (Such Sums) (Such Unaries)
    Primary And ExclusiveOr Expression Product Shift Sum Unary (λ e. e.0) (λ e. e.0) (λ e. e.0) (λ e. e.0) (λ e. e.0) (λ e. e.0) (λ e. e.0) (λ e. e.0) y))
by_primary (Primary-F.Name n) = subst Primaries (sym (rolls-Name n)) (name_spells n)
by_primary (Primary-F.Literal l) = subst Primaries (sym (rolls-Literal l)) (literal_spells l)
by_primary (Primary-F.Parentheses e) = subst Primaries (sym (rolls-Parentheses e.0)) (parentheses_spell e.0 e.1)

pub expression_spells-parts : (e : Expression) → spell_parts (expression_parts e) ≡ spell_expression e
expression_spells-parts = ind-Expression Primaries Ands ExclusiveOrs Expressions Products Shifts Sums Unaries
    (λ x y is. subst (λ z. Primaries (roll-Primary z)) is (by_primary y))
    (λ x y is. subst (λ z. Ands (roll-And z)) is (and_spells y.first y.rest))
    (λ x y is. subst (λ z. ExclusiveOrs (roll-ExclusiveOr z)) is (exclusive_or_spells y.first y.rest))
    (λ x y is. subst (λ z. Expressions (roll-Expression z)) is (expression_spells y.first y.rest))
    (λ x y is. subst (λ z. Products (roll-Product z)) is (product_spells y.first y.rest))
    (λ x y is. subst (λ z. Shifts (roll-Shift z)) is (shift_spells y.first y.rest))
    (λ x y is. subst (λ z. Sums (roll-Sum z)) is (sum_spells y.first y.rest))
    (λ x y is. subst (λ z. Unaries (roll-Unary z)) is (unary_spells y.operator y.operand.0 y.operand.1))

pub value_spells : (t : Purpose) (e : Expression) → spell_parts (value_parts t e) ≡ spell_expression e
value_spells t e =
    spells-then (expression_parts e) (ValueEnds t e ∷ []) (spell_expression e) [] (expression_spells-parts e) refl ∙ append-nil (spell_expression e)
