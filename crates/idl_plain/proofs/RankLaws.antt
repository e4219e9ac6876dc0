-- Expressions are told by the ranks of their operators.
use Rattle.std.proofs.Common.{◌≡◌, ◌++◌, [], ◌∷◌, None, Option, Some, flat_map, refl}
use Rattle.idl_lex.specs.declared.kinds.mark.Mark.TheVariants as mark
use Rattle.idl_parts.specs.ExpressionParts.{and_step as and_parts, exclusive_or_step as exclusive_or_parts, expression_parts, expression_step as or_parts, operator_parts, primary_step as primary_parts}
use Rattle.idl_parts.specs.Part.{Parts, Plain, Uses, punctuation}
use Rattle.idl_parts.specs.declared.part.Use.TheVariants.{AsOperand}
use Rattle.idl_plain.specs.Ranks.{of_products, of_shifts, of_sums, ranked_parts, ranked_term}
use Rattle.idl_tree.specs.Expression.{product_mark, shift_mark, spell_literal, spell_unary_operator, sum_mark}
use Rattle.idl_tree.specs.declared.expression.Expression.{Expression}
use Rattle.idl_tree.specs.declared.expression.Primary.TheFolds.{fold-Expression}
use Rattle.idl_tree.specs.declared.expression.Primary.TheOpen.{Primary-F}
use Rattle.idl_tree.specs.declared.expression.ProductOperator.{ProductOperator}
use Rattle.idl_tree.specs.declared.expression.ProductOperator.TheVariants as product
use Rattle.idl_tree.specs.declared.expression.ShiftOperator.{ShiftOperator}
use Rattle.idl_tree.specs.declared.expression.ShiftOperator.TheVariants as shift
use Rattle.idl_tree.specs.declared.expression.SumOperator.{SumOperator}
use Rattle.idl_tree.specs.declared.expression.SumOperator.TheVariants as sum
use Rattle.idl_tree.specs.declared.expression.UnaryOperator.{UnaryOperator}
use Rattle.idl_value.specs.Term.{Chain, Literally, Named, Parenthesised, Signed, Term, and_step, before_last, exclusive_or_step, expression_step, expression_term, links, primary_step, product_operator, shift_operator, signed, sum_operator}

shifts-told : (o : ShiftOperator) → (shift_mark o ≡ (of_shifts o).0) × (shift_operator o ≡ (of_shifts o).1)
shifts-told shift.Left = (refl, refl)
shifts-told shift.Right = (refl, refl)

sums-told : (o : SumOperator) → (sum_mark o ≡ (of_sums o).0) × (sum_operator o ≡ (of_sums o).1)
sums-told sum.Plus = (refl, refl)
sums-told sum.Minus = (refl, refl)

products-told : (o : ProductOperator) → (product_mark o ≡ (of_products o).0) × (product_operator o ≡ (of_products o).1)
products-told product.Times = (refl, refl)
products-told product.Divided = (refl, refl)
products-told product.Remainder = (refl, refl)

-- ---- terms

abbrev PrimaryTerm : Type 0
PrimaryTerm = Primary-F Term Term Term Term Term Term Term Term

primary-term : (p : PrimaryTerm) → primary_step p ≡ elim p as (λ _. Term) [
  | Primary-F.Name n ↦ Named (before_last n)
  | Primary-F.Literal l ↦ Literally l
  | Primary-F.Parentheses inner ↦ Parenthesised inner
]
primary-term (Primary-F.Name n) = refl
primary-term (Primary-F.Literal l) = refl
primary-term (Primary-F.Parentheses inner) = refl

signed-term : (o : Option UnaryOperator) (t : Term) → signed o t ≡ elim o as (λ _. Term) [ None ↦ t | Some sign ↦ Signed sign t ]
signed-term None t = refl
signed-term (Some sign) t = refl

pub terms-told : (e : Expression) → expression_term e ≡ ranked_term e
unfolding expression_term
terms-told e = λ i.
    fold-Expression Term Term Term Term Term Term Term Term
    (λ p. primary-term p i)
    and_step exclusive_or_step expression_step
    (λ p. Chain p.first (links (λ s. (products-told s.0).1 i) (λ s. s.1) p.rest))
    (λ p. Chain p.first (links (λ s. (shifts-told s.0).1 i) (λ s. s.1) p.rest))
    (λ p. Chain p.first (links (λ s. (sums-told s.0).1 i) (λ s. s.1) p.rest))
    (λ u. signed-term u.operator u.operand i) e

-- ---- parts

abbrev PrimaryParts : Type 0
PrimaryParts = Primary-F Parts Parts Parts Parts Parts Parts Parts Parts

primary-told : (p : PrimaryParts) → primary_parts p ≡ elim p as (λ _. Parts) [
  | Primary-F.Name n ↦ Uses AsOperand n ∷ []
  | Primary-F.Literal l ↦ Plain (spell_literal l) ∷ []
  | Primary-F.Parentheses inner ↦
      punctuation mark.OpenParenthesis ∷ (inner ++ punctuation mark.CloseParenthesis ∷ [])
]
primary-told (Primary-F.Name n) = refl
primary-told (Primary-F.Literal l) = refl
primary-told (Primary-F.Parentheses inner) = refl

signed-parts : (o : Option UnaryOperator) (parts : Parts) → operator_parts o ++ parts
    ≡ elim o as (λ _. Parts) [ None ↦ parts | Some sign ↦ Plain (spell_unary_operator (Some sign)) ∷ parts ]
signed-parts None parts = refl
signed-parts (Some sign) parts = refl

pub parts-told : (e : Expression) → expression_parts e ≡ ranked_parts e
unfolding expression_parts
parts-told e = λ i.
    fold-Expression Parts Parts Parts Parts Parts Parts Parts Parts
    (λ p. primary-told p i)
    and_parts exclusive_or_parts or_parts
    (λ p. p.first ++ flat_map (λ s. punctuation ((products-told s.0).0 i) ∷ s.1) p.rest)
    (λ p. p.first ++ flat_map (λ s. punctuation ((shifts-told s.0).0 i) ∷ s.1) p.rest)
    (λ p. p.first ++ flat_map (λ s. punctuation ((sums-told s.0).0 i) ∷ s.1) p.rest)
    (λ u. signed-parts u.operator u.operand i) e
