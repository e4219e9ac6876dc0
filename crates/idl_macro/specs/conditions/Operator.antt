-- The operators of a condition: their ranks (C 2011, 6.5.5 to 6.5.14) and their values.
use Rattle.std.specs.Prelude.{ℕ, true, false, not, ◌&&◌, if◌then◌else◌, None, Some, ℤ, ◌+ℤ◌, ◌-ℤ◌, ◌*ℤ◌, neg_ℤ, int_lt}
use Rattle.std.specs.Int.{w64, int_bit_and, int_bit_or, int_bit_xor, int_bit_not}
use Rattle.std.specs.Ordering.{int_eq}
use Rattle.idl_macro.specs.conditions.Arithmetic.{Value, checked, truth, is_zero, divided, remaining, shifted_left, shifted_right}
use Rattle.idl_macro.specs.declared.conditions.operator.Operator.{Operator}
use Rattle.idl_macro.specs.declared.conditions.operator.Operator.TheVariants as op
use Rattle.idl_macro.specs.declared.conditions.operator.Sign.{Sign}
use Rattle.idl_macro.specs.declared.conditions.operator.Sign.TheVariants as sign

-- operators of a higher rank bind their operands first
abbrev pub rank : Operator → ℕ
rank op.Or = 1
rank op.And = 2
rank op.BitOr = 3
rank op.BitXor = 4
rank op.BitAnd = 5
rank op.Equal = 6
rank op.NotEqual = 6
rank op.Less = 7
rank op.LessOrEqual = 7
rank op.Greater = 7
rank op.GreaterOrEqual = 7
rank op.ShiftLeft = 8
rank op.ShiftRight = 8
rank op.Add = 9
rank op.Subtract = 9
rank op.Multiply = 10
rank op.Divide = 10
rank op.Remainder = 10

abbrev pub highest_rank : ℕ
highest_rank = 10

-- the value at two numbers; bits are those of two's complement
abbrev pub operation : Operator → ℤ → ℤ → Value
operation op.Multiply a b = checked (a *ℤ b)
operation op.Divide a b = divided a b
operation op.Remainder a b = remaining a b
operation op.Add a b = checked (a +ℤ b)
operation op.Subtract a b = checked (a -ℤ b)
operation op.ShiftLeft a b = shifted_left a b
operation op.ShiftRight a b = shifted_right a b
operation op.Less a b = truth (int_lt a b)
operation op.LessOrEqual a b = truth (not (int_lt b a))
operation op.Greater a b = truth (int_lt b a)
operation op.GreaterOrEqual a b = truth (not (int_lt a b))
operation op.Equal a b = truth (int_eq a b)
operation op.NotEqual a b = truth (not (int_eq a b))
operation op.BitAnd a b = Some (int_bit_and w64 a b)
operation op.BitXor a b = Some (int_bit_xor w64 a b)
operation op.BitOr a b = Some (int_bit_or w64 a b)
operation op.And a b = truth (not (is_zero a) && not (is_zero b))
operation op.Or a b = truth (not (is_zero a && is_zero b))

-- what the left operand decides alone: the right one is not needed
abbrev pub decided : Operator → ℤ → Value
decided op.And a = if is_zero a then truth false else None
decided op.Or a = if is_zero a then None else truth true
decided _ a = None

-- a faulty right operand counts only where it is needed
abbrev pub application : Operator → Value → Value → Value
application o None right = None
application o (Some a) None = decided o a
application o (Some a) (Some b) = operation o a b

-- the value of an operator before its operand
abbrev pub sign_application : Sign → Value → Value
sign_application s None = None
sign_application sign.Not (Some a) = truth (is_zero a)
sign_application sign.Complement (Some a) = Some (int_bit_not w64 a)
sign_application sign.Minus (Some a) = checked (neg_ℤ a)
sign_application sign.Plus (Some a) = Some a
