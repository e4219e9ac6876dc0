-- Expressions without their ranks: operands, and operators between and before them.
use Rattle.std.specs.Prelude.{ℕ, ◌+◌, ◌*◌, Bool, true, false, List, [], ◌∷◌, Option, None, Some, length}
use Rattle.idl_tree.specs.declared.expression.And.{And}
use Rattle.idl_tree.specs.declared.expression.ExclusiveOr.{ExclusiveOr}
use Rattle.idl_tree.specs.declared.expression.Expression.{Expression}
use Rattle.idl_tree.specs.declared.expression.Primary.{Primary, fold-Primary}
use Rattle.idl_tree.specs.declared.expression.Primary.TheFolds.{fold-And, fold-ExclusiveOr, fold-Expression, fold-Product, fold-Shift, fold-Sum, fold-Unary}
use Rattle.idl_tree.specs.declared.expression.Primary.TheOpen.{Expression-F, ExclusiveOr-F, And-F, Shift-F, Sum-F, Product-F, Unary-F, Primary-F}
use Rattle.idl_tree.specs.declared.expression.Product.{Product}
use Rattle.idl_tree.specs.declared.expression.ProductOperator.{ProductOperator}
use Rattle.idl_tree.specs.declared.expression.ProductOperator.TheVariants as product
use Rattle.idl_tree.specs.declared.expression.Shift.{Shift}
use Rattle.idl_tree.specs.declared.expression.ShiftOperator.{ShiftOperator}
use Rattle.idl_tree.specs.declared.expression.ShiftOperator.TheVariants as shift
use Rattle.idl_tree.specs.declared.expression.Sum.{Sum}
use Rattle.idl_tree.specs.declared.expression.SumOperator.{SumOperator}
use Rattle.idl_tree.specs.declared.expression.SumOperator.TheVariants as sum
use Rattle.idl_tree.specs.declared.expression.Unary.{Unary}
use Rattle.idl_tree.specs.declared.expression.UnaryOperator.{UnaryOperator}
use Rattle.idl_tree.specs.declared.literal.Literal.{Literal}
use Rattle.idl_tree.specs.declared.name.ScopedName.{ScopedName}
use Rattle.idl_value.specs.declared.operator.BinaryOperator.{BinaryOperator}
use Rattle.idl_value.specs.declared.operator.BinaryOperator.TheVariants as operator

mutual
  pub data Term : Type 0 where
    -- a name, with how many of its tokens stand before its last part
    Named : ℕ → Term
    Literally : Literal → Term
    Parenthesised : Term → Term
    Signed : UnaryOperator → Term → Term
    -- operands of one rank
    Chain : Term → Links → Term

  -- the operators between the operands of a rank, each with its right operand
  pub data Links : Type 0 where
    End : Links
    Link : BinaryOperator → Term → Links → Links

-- links, from what each is made of
abbrev pub links : {X : Type 0} → (X → BinaryOperator) → (X → Term) → List X → Links
links operator term [] = End
links operator term (x ∷ xs) = Link (operator x) (term x) (links operator term xs)

abbrev pub leading : Bool → ℕ
leading true = 1
leading false = 0

-- how many tokens of a name stand before its last part
abbrev pub before_last : ScopedName → ℕ
before_last name = leading name.is_global + 2 * length name.rest

abbrev pub shift_operator : ShiftOperator → BinaryOperator
shift_operator shift.Left = operator.ShiftLeft
shift_operator shift.Right = operator.ShiftRight

abbrev pub sum_operator : SumOperator → BinaryOperator
sum_operator sum.Plus = operator.Add
sum_operator sum.Minus = operator.Subtract

abbrev pub product_operator : ProductOperator → BinaryOperator
product_operator product.Times = operator.Multiply
product_operator product.Divided = operator.Divide
product_operator product.Remainder = operator.Remainder

abbrev pub signed : Option UnaryOperator → Term → Term
signed None term = term
signed (Some sign) term = Signed sign term

-- primary = name | literal | "(" expr ")"
abbrev pub primary_step : Primary-F Term Term Term Term Term Term Term Term → Term
primary_step (Primary-F.Name n) = Named (before_last n)
primary_step (Primary-F.Literal l) = Literally l
primary_step (Primary-F.Parentheses inner) = Parenthesised inner

-- at most one of - + ~ ; primary
abbrev pub unary_step : Unary-F Term Term Term Term Term Term Term Term → Term
unary_step u = signed u.operator u.operand

-- operands with * / % between them
abbrev pub product_step : Product-F Term Term Term Term Term Term Term Term → Term
product_step p = Chain p.first (links (λ s. product_operator s.0) (λ s. s.1) p.rest)

-- operands with + - between them
abbrev pub sum_step : Sum-F Term Term Term Term Term Term Term Term → Term
sum_step p = Chain p.first (links (λ s. sum_operator s.0) (λ s. s.1) p.rest)

-- operands with << >> between them
abbrev pub shift_step : Shift-F Term Term Term Term Term Term Term Term → Term
shift_step p = Chain p.first (links (λ s. shift_operator s.0) (λ s. s.1) p.rest)

-- operands with & between them
abbrev pub and_step : And-F Term Term Term Term Term Term Term Term → Term
and_step p = Chain p.first (links (λ s. operator.And) (λ s. s) p.rest)

-- operands with ^ between them
abbrev pub exclusive_or_step : ExclusiveOr-F Term Term Term Term Term Term Term Term → Term
exclusive_or_step p = Chain p.first (links (λ s. operator.ExclusiveOr) (λ s. s) p.rest)

-- operands with | between them
abbrev pub expression_step : Expression-F Term Term Term Term Term Term Term Term → Term
expression_step p = Chain p.first (links (λ s. operator.Or) (λ s. s) p.rest)

-- an expression
unfoldable pub expression_term : Expression → Term
expression_term =
    fold-Expression Term Term Term Term Term Term Term Term
    primary_step and_step exclusive_or_step expression_step
    product_step shift_step sum_step unary_step

-- the ranks below
unfoldable pub exclusive_or_term : ExclusiveOr → Term
exclusive_or_term =
    fold-ExclusiveOr Term Term Term Term Term Term Term Term
    primary_step and_step exclusive_or_step expression_step
    product_step shift_step sum_step unary_step

unfoldable pub and_term : And → Term
and_term =
    fold-And Term Term Term Term Term Term Term Term
    primary_step and_step exclusive_or_step expression_step
    product_step shift_step sum_step unary_step

unfoldable pub shift_term : Shift → Term
shift_term =
    fold-Shift Term Term Term Term Term Term Term Term
    primary_step and_step exclusive_or_step expression_step
    product_step shift_step sum_step unary_step

unfoldable pub sum_term : Sum → Term
sum_term =
    fold-Sum Term Term Term Term Term Term Term Term
    primary_step and_step exclusive_or_step expression_step
    product_step shift_step sum_step unary_step

unfoldable pub product_term : Product → Term
product_term =
    fold-Product Term Term Term Term Term Term Term Term
    primary_step and_step exclusive_or_step expression_step
    product_step shift_step sum_step unary_step

unfoldable pub unary_term : Unary → Term
unary_term =
    fold-Unary Term Term Term Term Term Term Term Term
    primary_step and_step exclusive_or_step expression_step
    product_step shift_step sum_step unary_step

unfoldable pub primary_term : Primary → Term
primary_term =
    fold-Primary Term Term Term Term Term Term Term Term
    primary_step and_step exclusive_or_step expression_step
    product_step shift_step sum_step unary_step
