-- The names of an expression, each of which has an operand.
use Rattle.std.specs.Prelude.{ℕ, ◌+◌, ◌≤◌, All, length}
use Rattle.std.specs.Option.{IsSome}
use Rattle.idl_tree.specs.declared.expression.Expression.{Expression}
use Rattle.idl_value.specs.Evaluation.{Operands}
use Rattle.idl_value.specs.Term.{Term, Named, Literally, Parenthesised, Signed, Chain, Links, End, Link, expression_term}

-- how many names a term has
abbrev mutual
  pub term_names : Term → ℕ
  term_names (Named before) = 1
  term_names (Literally l) = 0
  term_names (Parenthesised inner) = term_names inner
  term_names (Signed sign operand) = term_names operand
  term_names (Chain first rest) = term_names first + links_names rest

  pub links_names : Links → ℕ
  links_names End = 0
  links_names (Link operator term rest) = term_names term + links_names rest

-- how many names an expression has
abbrev pub name_count : Expression → ℕ
name_count e = term_names (expression_term e)

-- each name of the expression has a value
pub record AreGiven (operands : Operands) (e : Expression) : Type 0 where
  pub enough : name_count e ≤ length operands
  pub values : All IsSome operands
