-- The value of a condition, as a list of symbols.
use Rattle.std.specs.Prelude.{ℕ, zero, suc, List, [], ◌∷◌, nat_eq, if◌then◌else◌, Option, None, Some, pos}
use Rattle.idl_macro.specs.conditions.Arithmetic.{Value, checked}
use Rattle.idl_macro.specs.conditions.Operator.{rank, highest_rank, application, sign_application}
use Rattle.idl_macro.specs.declared.conditions.operator.Operator.{Operator}
use Rattle.idl_macro.specs.declared.conditions.operator.Operator.TheVariants as op
use Rattle.idl_macro.specs.declared.conditions.operator.Sign.{Sign}
use Rattle.idl_macro.specs.declared.conditions.operator.Sign.TheVariants as sign
use Rattle.idl_macro.specs.declared.conditions.symbol.ConditionSymbol.{ConditionSymbol}
use Rattle.idl_macro.specs.declared.conditions.symbol.ConditionSymbol.TheVariants as symbol

-- operators, each with the operand after it
abbrev pub Chain : Type 0
Chain = List (Operator × Value)

-- From the left, each operator of this rank is replaced, with its two operands, by its value.
abbrev pub merged : ℕ → Value → Chain → Value × Chain
merged r a [] = (a, [])
merged r a (p ∷ ps) =
    if nat_eq (rank p.0) r then merged r (application p.0 a p.1) ps
    else (a, (p.0, (merged r p.1 ps).0) ∷ (merged r p.1 ps).1)

-- first those of this rank, then those of the next lower one, and so on
abbrev pub levels : ℕ → Value × Chain → Value × Chain
levels zero c = c
levels (suc r) c = levels r (merged (suc r) c.0 c.1)

-- the value of an operand and of the chain after it
unfoldable pub resolved : Value → Chain → Value
resolved a ps = (levels highest_rank (a, ps)).0

-- what follows a chain: the end, a closing parenthesis with what follows that one, or what no
-- condition has
pub data Tail : Type 0 where
  End : Tail
  Closed : Chain → Tail → Tail
  Bad : Tail

-- what stands from an operand on
pub record Front : Type 0 where
  pub first : Value
  pub chain : Chain
  pub tail : Tail

-- what stands from an operator on
pub record Rest : Type 0 where
  pub chain : Chain
  pub tail : Tail

abbrev pub bad_front : Front
bad_front = record { first = None; chain = []; tail = Bad }

abbrev pub bad_rest : Rest
bad_rest = record { chain = []; tail = Bad }

abbrev pub first_before : Value → Rest → Front
first_before v rest = record { first = v; chain = rest.chain; tail = rest.tail }

-- an operator, and what stands from the operand after it on
abbrev pub linked : Operator → Front → Rest
linked o front = record { chain = (o, front.first) ∷ front.chain; tail = front.tail }

-- an operand in parentheses
abbrev pub after_open : Value → Tail → Front
after_open v End = bad_front
after_open v (Closed c t) = record { first = v; chain = c; tail = t }
after_open v Bad = bad_front

-- the operator that a symbol is where an operand has to follow
abbrev pub sign_of_operator : Operator → Option Sign
sign_of_operator op.Subtract = Some sign.Minus
sign_of_operator op.Add = Some sign.Plus
sign_of_operator _ = None

abbrev pub sign_of : ConditionSymbol → Option Sign
sign_of symbol.Not = Some sign.Not
sign_of symbol.Complement = Some sign.Complement
sign_of (symbol.Operator o) = sign_of_operator o
sign_of _ = None

abbrev pub signed : Option Sign → Front → Front
signed None front = bad_front
signed (Some s) front =
    record { first = sign_application s front.first; chain = front.chain; tail = front.tail }

unfoldable mutual
  -- the symbols from an operand on
  pub operand_at : List ConditionSymbol → Front
  operand_at [] = bad_front
  operand_at (symbol.Number n ∷ ss) = first_before (checked (pos n)) (operator_at ss)
  operand_at (symbol.Name ∷ ss) = first_before (Some (pos 0)) (operator_at ss)
  operand_at (symbol.Operator o ∷ ss) = signed (sign_of_operator o) (operand_at ss)
  operand_at (symbol.Not ∷ ss) = signed (Some sign.Not) (operand_at ss)
  operand_at (symbol.Complement ∷ ss) = signed (Some sign.Complement) (operand_at ss)
  operand_at (symbol.Open ∷ ss) =
      after_open (resolved (operand_at ss).first (operand_at ss).chain) (operand_at ss).tail
  operand_at (symbol.Close ∷ ss) = bad_front
  operand_at (symbol.Other ∷ ss) = bad_front

  -- the symbols from an operator on
  pub operator_at : List ConditionSymbol → Rest
  operator_at [] = record { chain = []; tail = End }
  operator_at (symbol.Number n ∷ ss) = bad_rest
  operator_at (symbol.Name ∷ ss) = bad_rest
  operator_at (symbol.Operator o ∷ ss) = linked o (operand_at ss)
  operator_at (symbol.Not ∷ ss) = bad_rest
  operator_at (symbol.Complement ∷ ss) = bad_rest
  operator_at (symbol.Open ∷ ss) = bad_rest
  operator_at (symbol.Close ∷ ss) =
      record { chain = []; tail = Closed (operator_at ss).chain (operator_at ss).tail }
  operator_at (symbol.Other ∷ ss) = bad_rest

abbrev pub at_end : Value → Tail → Value
at_end v End = v
at_end v (Closed c t) = None
at_end v Bad = None

-- the value of a condition, or nothing where it is faulty
unfoldable pub condition : List ConditionSymbol → Value
condition ss = at_end (resolved (operand_at ss).first (operand_at ss).chain) (operand_at ss).tail
