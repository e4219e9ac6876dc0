-- What an expression comes to: its value for a target, or its faults in the order of tokens.
-- All faults are listed in the order of tokens, as a law says, so the code keeps the first. That
-- names have values is no `requires`: a name behind the last value is faulty, and who tells faults
-- need not count them.
use Rattle.std.specs.Prelude.{ℕ, ◌+◌, ◌-◌, ◌^◌, ℤ, pos, zero, Bool, true, false, get_or, length, min, nat_le, List, [], ◌∷◌, ◌++◌, flat_map, Option, None, Some, Result, Ok, Err, if◌then◌else◌}
use Rattle.idl_tree.specs.Expression.{spell_literal}
use Rattle.idl_tree.specs.declared.expression.Expression.{Expression}
use Rattle.idl_tree.specs.declared.expression.UnaryOperator.{UnaryOperator}
use Rattle.idl_tree.specs.declared.literal.Literal.{Literal}
use Rattle.idl_tree.specs.declared.literal.Literal.TheVariants as literal
use Rattle.idl_tree.specs.declared.several.Several.{Several}
use Rattle.idl_value.specs.Equal.{path_eq}
use Rattle.idl_value.specs.integers.Integer.{holds}
use Rattle.idl_value.specs.Operate.{in_parts, operate, operate_sign}
use Rattle.idl_value.specs.Term.{Term, Named, Literally, Parenthesised, Signed, Chain, Links, End, Link, expression_term}
use Rattle.idl_value.specs.declared.integer.IntegerKind.{IntegerKind}
use Rattle.idl_value.specs.declared.integer.IntegerKind.TheVariants.{UnsignedLong}
use Rattle.idl_value.specs.declared.operator.BinaryOperator.{BinaryOperator}
use Rattle.idl_value.specs.declared.outcome.ValueCode.{ValueCode}
use Rattle.idl_value.specs.declared.outcome.ValueCode.TheVariants.{WrongKind, OutOfRange, NotPositive}
use Rattle.idl_value.specs.declared.outcome.ValueFault.{ValueFault}
use Rattle.idl_value.specs.declared.outcome.Outcome.{Outcome}
use Rattle.idl_value.specs.declared.outcome.Outcome.TheVariants as outcome
use Rattle.idl_value.specs.declared.constant_type.ConstantType.{ConstantType}
use Rattle.idl_value.specs.declared.constant_type.ConstantType.TheVariants as target
use Rattle.idl_value.specs.declared.value.Value.{Value}
use Rattle.idl_value.specs.declared.value.Value.TheVariants as value
use Rattle.idl_value.specs.declared.walk.Passed.{Passed}

-- The values of names in the order of their tokens. None is a fault of the name, which is told with
-- it.
abbrev pub Operands : Type 0
Operands = List (Option Value)

-- string literals as one
abbrev pub joined : Several (List ℕ) → List ℕ
joined pieces = pieces.first ++ flat_map (λ piece. piece) pieces.rest

abbrev pub literal_value : Literal → Value
literal_value (literal.Integer n) = value.Integer (pos n)
literal_value (literal.Character c) = value.Character c
literal_value (literal.WideCharacter c) = value.WideCharacter c
literal_value (literal.Text pieces) = value.Text (joined pieces)
literal_value (literal.WideText pieces) = value.WideText (joined pieces)
literal_value literal.True = value.Boolean true
literal_value literal.False = value.Boolean false

abbrev pub whole : Result ℤ ValueCode → Result Value ValueCode
whole (Ok z) = Ok (value.Integer z)
whole (Err code) = Err code

-- the value of an operand: it is of the target's kind, and a whole number is one of its parts
abbrev pub admitted : ConstantType → Value → Result Value ValueCode
admitted (target.Integer kind) (value.Integer z) = whole (in_parts kind z)
admitted target.Boolean (value.Boolean b) = Ok (value.Boolean b)
admitted target.Character (value.Character c) = Ok (value.Character c)
admitted target.WideCharacter (value.WideCharacter c) = Ok (value.WideCharacter c)
admitted (target.Text bound) (value.Text text) = Ok (value.Text text)
admitted (target.WideText bound) (value.WideText text) = Ok (value.WideText text)
admitted (target.Enumeration path) (value.Enumerator of name) =
    if path_eq path of then Ok (value.Enumerator of name) else Err WrongKind
admitted target other = Err WrongKind

-- the whole number that a value is, and the integer type that a target is
abbrev pub number_in : Value → Option ℤ
number_in (value.Integer z) = Some z
number_in other = None

abbrev pub kind_in : ConstantType → Option IntegerKind
kind_in (target.Integer kind) = Some kind
kind_in other = None

-- operators are of whole numbers, for an integer type
abbrev pub combined_numbers : Option IntegerKind → BinaryOperator → Option ℤ → Option ℤ → Result ℤ ValueCode
combined_numbers (Some kind) operator (Some a) (Some b) = operate kind operator a b
combined_numbers kind operator a b = Err WrongKind

abbrev pub signed_number : Option IntegerKind → UnaryOperator → Option ℤ → Result ℤ ValueCode
signed_number (Some kind) sign (Some a) = operate_sign kind sign a
signed_number kind sign a = Err WrongKind

abbrev pub combined : ConstantType → BinaryOperator → Value → Value → Result Value ValueCode
combined target operator a b =
    whole (combined_numbers (kind_in target) operator (number_in a) (number_in b))

abbrev pub signed_value : ConstantType → UnaryOperator → Value → Result Value ValueCode
signed_value target sign a = whole (signed_number (kind_in target) sign (number_in a))

-- a value; or none, with the faults that are not those of names
pub data Evaluation : Type 0 where
  Valued : Value → Evaluation
  Faulty : List ValueFault → Evaluation

abbrev pub fault : ℕ → ValueCode → ValueFault
fault token code = record { token = token; code = code }

abbrev pub at_token : ℕ → Result Value ValueCode → Evaluation
at_token token (Ok v) = Valued v
at_token token (Err code) = Faulty (fault token code ∷ [])

-- a name whose last part stands at the token
abbrev pub named : ConstantType → ℕ → Option Value → Evaluation
named target token None = Faulty []
named target token (Some v) = at_token token (admitted target v)

-- an operator brings a fault only where its operands have none
abbrev pub operated : ConstantType → ℕ → BinaryOperator → Evaluation → Evaluation → Evaluation
operated target token operator (Valued a) (Valued b) =
    at_token token (combined target operator a b)
operated target token operator (Valued a) (Faulty fs) = Faulty fs
operated target token operator (Faulty fs) (Valued b) = Faulty fs
operated target token operator (Faulty fs) (Faulty gs) = Faulty (fs ++ gs)

abbrev pub signed_at : ConstantType → ℕ → UnaryOperator → Evaluation → Evaluation
signed_at target token sign (Valued a) = at_token token (signed_value target sign a)
signed_at target token sign (Faulty fs) = Faulty fs

-- what a part of an expression comes to, and the place behind it
pub record Read : Type 0 where
  pub evaluation : Evaluation
  pub place : Passed

-- Numbers of tokens and names are below 2^64: what would have a greater one has the last of them.
abbrev pub ahead : ℕ → ℕ → ℕ
ahead n more = min (n + more) (2 ^ 64 - 1)

-- so many tokens and names further
abbrev pub behind : Passed → ℕ → ℕ → Passed
behind place tokens names =
    record { token = ahead place.token tokens; name = ahead place.name names }

-- the operand of a name by its number; none of a name that has none
abbrev pub operand_at : Operands → ℕ → Option Value
operand_at operands number = get_or operands number None

abbrev pub read_sign : ConstantType → ℕ → UnaryOperator → Read → Read
read_sign target token sign operand = record {
  evaluation = signed_at target token sign operand.evaluation;
  place = operand.place;
}

abbrev pub read_parenthesis : Read → Read
read_parenthesis inner =
    record { evaluation = inner.evaluation; place = behind inner.place 1 0 }

-- the operator stands behind the left operand
abbrev pub read_operator : ConstantType → BinaryOperator → Read → Read → Read
read_operator target operator left right = record {
  evaluation =
      operated target left.place.token operator left.evaluation right.evaluation;
  place = right.place;
}

-- a part of an expression, from the place where it begins
abbrev mutual
  pub read_term : ConstantType → Operands → Passed → Term → Read
  read_term target operands place (Named before) = record {
    evaluation = named target (ahead place.token before) (operand_at operands place.name);
    place = behind (behind place before 0) 1 1;
  }
  read_term target operands place (Literally l) = record {
    evaluation = at_token place.token (admitted target (literal_value l));
    place = behind place (length (spell_literal l)) 0;
  }
  read_term target operands place (Parenthesised inner) =
      read_parenthesis (read_term target operands (behind place 1 0) inner)
  read_term target operands place (Signed sign operand) =
      read_sign target place.token sign
      (read_term target operands (behind place 1 0) operand)
  read_term target operands place (Chain first rest) =
      read_links target operands (read_term target operands place first) rest

  -- from the left
  pub read_links : ConstantType → Operands → Read → Links → Read
  read_links target operands left End = left
  read_links target operands left (Link operator term rest) =
      read_links target operands
      (read_operator target operator left
      (read_term target operands (behind left.place 1 0) term)) rest

abbrev pub start : Passed
start = record { token = 0; name = 0 }

-- a value is in the range of its target, and a string within its bound
abbrev pub is_held : ConstantType → Value → Bool
is_held (target.Integer kind) (value.Integer z) = holds kind z
is_held (target.Text (Some bound)) (value.Text text) = nat_le (length text) bound
is_held (target.WideText (Some bound)) (value.WideText text) = nat_le (length text) bound
is_held target other = true

-- a value out of range is a fault of the whole expression, at its first token
abbrev pub in_target : ConstantType → Evaluation → Evaluation
in_target target (Valued v) =
    if is_held target v then Valued v else Faulty (fault 0 OutOfRange ∷ [])
in_target target (Faulty fs) = Faulty fs

-- what an expression comes to for a target
unfoldable pub value_of : ConstantType → Operands → Expression → Evaluation
value_of target operands e =
    in_target target (read_term target operands start (expression_term e)).evaluation

-- a bound isn't 0
abbrev pub positive : Evaluation → Evaluation
positive (Valued (value.Integer (pos zero))) = Faulty (fault 0 NotPositive ∷ [])
positive (Valued v) = Valued v
positive (Faulty fs) = Faulty fs

-- the bound of a string or a sequence, or the length of an array
unfoldable pub bound_of : Operands → Expression → Evaluation
bound_of operands e = positive (value_of (target.Integer UnsignedLong) operands e)

-- what is told of it
abbrev pub first_of : Evaluation → Outcome
first_of (Valued v) = outcome.Value v
first_of (Faulty []) = outcome.Told
first_of (Faulty (f ∷ fs)) = outcome.Fault f

abbrev pub faults_of : Evaluation → List ValueFault
faults_of (Valued v) = []
faults_of (Faulty fs) = fs
