-- Expressions by the ranks of their operators: as terms that have values, and as the parts of a unit.
use Rattle.std.specs.Prelude.{◌++◌, [], ◌∷◌, None, Some, flat_map}
use Rattle.idl_lex.specs.declared.kinds.mark.Mark.{Mark}
use Rattle.idl_lex.specs.declared.kinds.mark.Mark.TheVariants as mark
use Rattle.idl_parts.specs.Part.{Parts, Plain, Uses, punctuation}
use Rattle.idl_parts.specs.declared.part.Use.TheVariants.{AsOperand}
use Rattle.idl_tree.specs.Expression.{spell_literal, spell_unary_operator}
use Rattle.idl_tree.specs.declared.expression.Expression.{Expression}
use Rattle.idl_tree.specs.declared.expression.Primary.TheFolds.{fold-Expression}
use Rattle.idl_tree.specs.declared.expression.Primary.TheOpen.{Primary-F}
use Rattle.idl_tree.specs.declared.expression.ProductOperator.{ProductOperator}
use Rattle.idl_tree.specs.declared.expression.ProductOperator.TheVariants as product
use Rattle.idl_tree.specs.declared.expression.ShiftOperator.{ShiftOperator}
use Rattle.idl_tree.specs.declared.expression.ShiftOperator.TheVariants as shift
use Rattle.idl_tree.specs.declared.expression.SumOperator.{SumOperator}
use Rattle.idl_tree.specs.declared.expression.SumOperator.TheVariants as sum
use Rattle.idl_value.specs.Term.{Chain, Literally, Named, Parenthesised, Signed, Term, before_last, links}
use Rattle.idl_value.specs.declared.operator.BinaryOperator.{BinaryOperator}
use Rattle.idl_value.specs.declared.operator.BinaryOperator.TheVariants as operator

-- each operator that shares its rank with others: its mark, and what it does
abbrev pub of_shifts : ShiftOperator → Mark × BinaryOperator
of_shifts shift.Left = (mark.ShiftLeft, operator.ShiftLeft)
of_shifts shift.Right = (mark.ShiftRight, operator.ShiftRight)

abbrev pub of_sums : SumOperator → Mark × BinaryOperator
of_sums sum.Plus = (mark.Plus, operator.Add)
of_sums sum.Minus = (mark.Minus, operator.Subtract)

abbrev pub of_products : ProductOperator → Mark × BinaryOperator
of_products product.Times = (mark.Star, operator.Multiply)
of_products product.Divided = (mark.Slash, operator.Divide)
of_products product.Remainder = (mark.Percent, operator.Remainder)

-- A primary is a name, a literal, or an expression in parentheses. Its operators are, from the rank
-- that binds least: |, ^, &, the shifts, the sums, the products, and at most one before a primary.
abbrev pub ranked_term : Expression → Term
ranked_term =
    fold-Expression Term Term Term Term Term Term Term Term
    (λ p. elim p [
      | Primary-F.Name n ↦ Named (before_last n)
      | Primary-F.Literal l ↦ Literally l
      | Primary-F.Parentheses inner ↦ Parenthesised inner
    ])
    (λ p. Chain p.first (links (λ s. operator.And) (λ s. s) p.rest))
    (λ p. Chain p.first (links (λ s. operator.ExclusiveOr) (λ s. s) p.rest))
    (λ p. Chain p.first (links (λ s. operator.Or) (λ s. s) p.rest))
    (λ p. Chain p.first (links (λ s. (of_products s.0).1) (λ s. s.1) p.rest))
    (λ p. Chain p.first (links (λ s. (of_shifts s.0).1) (λ s. s.1) p.rest))
    (λ p. Chain p.first (links (λ s. (of_sums s.0).1) (λ s. s.1) p.rest))
    (λ u. elim u.operator [ None ↦ u.operand | Some sign ↦ Signed sign u.operand ])

abbrev pub ranked_parts : Expression → Parts
ranked_parts =
    fold-Expression Parts Parts Parts Parts Parts Parts Parts Parts
    (λ p. elim p [
      | Primary-F.Name n ↦ Uses AsOperand n ∷ []
      | Primary-F.Literal l ↦ Plain (spell_literal l) ∷ []
      | Primary-F.Parentheses inner ↦
          punctuation mark.OpenParenthesis ∷ (inner ++ punctuation mark.CloseParenthesis ∷ [])
    ])
    (λ p. p.first ++ flat_map (λ s. punctuation mark.Ampersand ∷ s) p.rest)
    (λ p. p.first ++ flat_map (λ s. punctuation mark.Caret ∷ s) p.rest)
    (λ p. p.first ++ flat_map (λ s. punctuation mark.Bar ∷ s) p.rest)
    (λ p. p.first ++ flat_map (λ s. punctuation (of_products s.0).0 ∷ s.1) p.rest)
    (λ p. p.first ++ flat_map (λ s. punctuation (of_shifts s.0).0 ∷ s.1) p.rest)
    (λ p. p.first ++ flat_map (λ s. punctuation (of_sums s.0).0 ∷ s.1) p.rest)
    (λ u. elim u.operator
    [ None ↦ u.operand | Some sign ↦ Plain (spell_unary_operator (Some sign)) ∷ u.operand ])
