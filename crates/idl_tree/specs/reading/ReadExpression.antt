-- Reading of expressions.
use Rattle.std.specs.Prelude.{ℕ, zero, suc, List, length, drop, Option, Some, None, Ok, Err, is_some, if◌then◌else◌}
use Rattle.idl_lex.specs.declared.kinds.keyword.Keyword.TheVariants as word
use Rattle.idl_lex.specs.declared.kinds.mark.Mark.{Mark}
use Rattle.idl_lex.specs.declared.kinds.mark.Mark.TheVariants as mark
use Rattle.idl_tree.specs.Lexeme.{Lexeme, Word, Punctuation, Integer, Character, WideCharacter, Text, WideText}
use Rattle.idl_tree.specs.reading.ReadName.{name_at, begins_name}
use Rattle.idl_tree.specs.reading.Reading.{Reader, ◌>>=◌, first, expect, many_of}
use Rattle.idl_tree.specs.reading.Tests.{is_mark, pick}
use Rattle.idl_tree.specs.declared.expression.And.{And, roll-And}
use Rattle.idl_tree.specs.declared.expression.ExclusiveOr.{ExclusiveOr, roll-ExclusiveOr}
use Rattle.idl_tree.specs.declared.expression.Expression.{Expression, roll-Expression}
use Rattle.idl_tree.specs.declared.expression.Primary.{Primary}
use Rattle.idl_tree.specs.declared.expression.Primary.TheVariants as primary
use Rattle.idl_tree.specs.declared.expression.Product.{Product, roll-Product}
use Rattle.idl_tree.specs.declared.expression.ProductOperator.{ProductOperator}
use Rattle.idl_tree.specs.declared.expression.ProductOperator.TheVariants.{Times, Divided, Remainder}
use Rattle.idl_tree.specs.declared.expression.Shift.{Shift, roll-Shift}
use Rattle.idl_tree.specs.declared.expression.ShiftOperator.{ShiftOperator}
use Rattle.idl_tree.specs.declared.expression.ShiftOperator.TheVariants.{Left, Right}
use Rattle.idl_tree.specs.declared.expression.Sum.{Sum, roll-Sum}
use Rattle.idl_tree.specs.declared.expression.SumOperator.{SumOperator}
use Rattle.idl_tree.specs.declared.expression.SumOperator.TheVariants as sum
use Rattle.idl_tree.specs.declared.expression.Unary.{Unary, roll-Unary}
use Rattle.idl_tree.specs.declared.expression.UnaryOperator.{UnaryOperator}
use Rattle.idl_tree.specs.declared.expression.UnaryOperator.TheVariants as unary
use Rattle.idl_tree.specs.declared.literal.Literal.{Literal}
use Rattle.idl_tree.specs.declared.literal.Literal.TheVariants as literal

abbrev pub shift_operator_of : Option Lexeme → Option ShiftOperator
shift_operator_of (Some (Punctuation mark.ShiftLeft)) = Some Left
shift_operator_of (Some (Punctuation mark.ShiftRight)) = Some Right
shift_operator_of _ = None

abbrev pub sum_operator_of : Option Lexeme → Option SumOperator
sum_operator_of (Some (Punctuation mark.Plus)) = Some sum.Plus
sum_operator_of (Some (Punctuation mark.Minus)) = Some sum.Minus
sum_operator_of _ = None

abbrev pub product_operator_of : Option Lexeme → Option ProductOperator
product_operator_of (Some (Punctuation mark.Star)) = Some Times
product_operator_of (Some (Punctuation mark.Slash)) = Some Divided
product_operator_of (Some (Punctuation mark.Percent)) = Some Remainder
product_operator_of _ = None

abbrev pub unary_operator_of : Option Lexeme → Option UnaryOperator
unary_operator_of (Some (Punctuation mark.Minus)) = Some unary.Minus
unary_operator_of (Some (Punctuation mark.Plus)) = Some unary.Plus
unary_operator_of (Some (Punctuation mark.Tilde)) = Some unary.Complement
unary_operator_of _ = None

-- an operator and an operand
unfoldable pub step_with : {O A : Type 0} → (Option Lexeme → Option O) → Reader A → Reader (O × A)
step_with operator operand ts = do
  o ← pick operator ts
  x ← operand o.1
  Ok ((o.0, x.0), x.1)

-- an operand, and operators with operands
unfoldable pub chain_with : {O A C : Type 0} → (A → List (O × A) → C) → (Option Lexeme → Option O)
    → Reader A → Reader C
chain_with make operator operand ts = do
  x ← operand ts
  xs ← many_of (λ t. is_some (operator t)) (step_with operator operand) x.1
  Ok (make x.0 xs.0, xs.1)

-- a mark and an operand
unfoldable pub behind_with : {A : Type 0} → Mark → Reader A → Reader A
behind_with m operand ts = do
  rest ← expect (is_mark m) ts
  operand rest

-- operands with a mark between each two
unfoldable pub parted_with : {A C : Type 0} → (A → List A → C) → Mark → Reader A → Reader C
parted_with make m operand ts = do
  x ← operand ts
  xs ← many_of (is_mark m) (behind_with m operand) x.1
  Ok (make x.0 xs.0, xs.1)

abbrev pub text_of : Option Lexeme → Option (List ℕ)
text_of (Some (Text piece)) = Some piece
text_of _ = None

abbrev pub wide_text_of : Option Lexeme → Option (List ℕ)
wide_text_of (Some (WideText piece)) = Some piece
wide_text_of _ = None

-- a literal that is one token
pub data Single : Type 0 where
  Whole : ℕ → Single
  Narrow : ℕ → Single
  Wide : ℕ → Single
  Yes : Single
  No : Single

abbrev pub single_of : Option Lexeme → Option Single
single_of (Some (Integer n)) = Some (Whole n)
single_of (Some (Character c)) = Some (Narrow c)
single_of (Some (WideCharacter c)) = Some (Wide c)
single_of (Some (Word word.True)) = Some Yes
single_of (Some (Word word.False)) = Some No
single_of _ = None

abbrev pub single_literal : Single → Literal
single_literal (Whole n) = literal.Integer n
single_literal (Narrow c) = literal.Character c
single_literal (Wide c) = literal.WideCharacter c
single_literal Yes = literal.True
single_literal No = literal.False

-- string literals side by side
unfoldable pub pieces_at : (Option Lexeme → Option (List ℕ)) → Reader (List ℕ × List (List ℕ))
pieces_at piece ts = do
  x ← pick piece ts
  xs ← many_of (λ t. is_some (piece t)) (pick piece) x.1
  Ok ((x.0, xs.0), xs.1)

abbrev pub text_literal : List ℕ × List (List ℕ) → Literal
text_literal p = literal.Text (record { first = p.0; rest = p.1 })

abbrev pub wide_text_literal : List ℕ × List (List ℕ) → Literal
wide_text_literal p = literal.WideText (record { first = p.0; rest = p.1 })

unfoldable pub literal_at : Reader Literal
literal_at ts =
    if is_some (text_of (first ts)) then (pieces_at text_of ts >>= λ p. Ok (text_literal p.0, p.1))
    else (if is_some (wide_text_of (first ts))
    then (pieces_at wide_text_of ts >>= λ p. Ok (wide_text_literal p.0, p.1))
    else (pick single_of ts >>= λ s. Ok (single_literal s.0, s.1)))

unfoldable pub parentheses_with : Reader Expression → Reader Primary
parentheses_with expression ts = do
  rest ← expect (is_mark mark.OpenParenthesis) ts
  e ← expression rest
  rest2 ← expect (is_mark mark.CloseParenthesis) e.1
  Ok (primary.Parentheses e.0, rest2)

unfoldable pub primary_with : Reader Expression → Reader Primary
primary_with expression ts =
    if is_mark mark.OpenParenthesis (first ts) then parentheses_with expression ts
    else (if begins_name (first ts) then (name_at ts >>= λ n. Ok (primary.Name n.0, n.1))
    else (literal_at ts >>= λ l. Ok (primary.Literal l.0, l.1)))

abbrev pub made_unary : Option UnaryOperator → Primary → Unary
made_unary operator operand = roll-Unary (record { operator = operator; operand = operand })

unfoldable pub unary_with : Reader Primary → Reader Unary
unary_with operand ts = do
  let o : Option UnaryOperator = unary_operator_of (first ts)
  p ← operand (if is_some o then drop 1 ts else ts)
  Ok (made_unary o p.0, p.1)

abbrev pub made_product : Unary → List (ProductOperator × Unary) → Product
made_product x xs = roll-Product (record { first = x; rest = xs })

abbrev pub made_sum : Product → List (SumOperator × Product) → Sum
made_sum x xs = roll-Sum (record { first = x; rest = xs })

abbrev pub made_shift : Sum → List (ShiftOperator × Sum) → Shift
made_shift x xs = roll-Shift (record { first = x; rest = xs })

abbrev pub made_and : Shift → List Shift → And
made_and x xs = roll-And (record { first = x; rest = xs })

abbrev pub made_exclusive_or : And → List And → ExclusiveOr
made_exclusive_or x xs = roll-ExclusiveOr (record { first = x; rest = xs })

abbrev pub made_expression : ExclusiveOr → List ExclusiveOr → Expression
made_expression x xs = roll-Expression (record { first = x; rest = xs })

-- the ranks over what reads what is in parentheses
abbrev pub product_with : Reader Expression → Reader Product
product_with expression =
    chain_with made_product product_operator_of (unary_with (primary_with expression))

abbrev pub sum_with : Reader Expression → Reader Sum
sum_with expression = chain_with made_sum sum_operator_of (product_with expression)

abbrev pub shift_with : Reader Expression → Reader Shift
shift_with expression = chain_with made_shift shift_operator_of (sum_with expression)

abbrev pub and_with : Reader Expression → Reader And
and_with expression = parted_with made_and mark.Ampersand (shift_with expression)

abbrev pub exclusive_or_with : Reader Expression → Reader ExclusiveOr
exclusive_or_with expression = parted_with made_exclusive_or mark.Caret (and_with expression)

abbrev pub or_with : Reader Expression → Reader Expression
or_with expression = parted_with made_expression mark.Bar (exclusive_or_with expression)

-- at most n deep
unfoldable pub expression_at : ℕ → Reader Expression
expression_at zero ts = Err (length ts)
expression_at (suc n) ts = or_with (expression_at n) ts
