-- The value of an operator at whole numbers, or the code of its fault.
use Rattle.std.specs.Prelude.{zero, ◌-◌, ◌/◌, ◌^◌, ℤ, pos, negsuc, cond, nat_lt, ◌+ℤ◌, ◌-ℤ◌, ◌*ℤ◌, neg_ℤ, int_div, int_rem}
use Rattle.std.specs.Prelude.{Result, Ok, Err}
use Rattle.idl_tree.specs.declared.expression.UnaryOperator.{UnaryOperator}
use Rattle.idl_tree.specs.declared.expression.UnaryOperator.TheVariants as unary
use Rattle.idl_value.specs.integers.Bits.{whole_and, whole_or, whole_xor}
use Rattle.idl_value.specs.integers.Integer.{width, is_signed, power, holds_part}
use Rattle.idl_value.specs.declared.integer.IntegerKind.{IntegerKind}
use Rattle.idl_value.specs.declared.operator.BinaryOperator.{BinaryOperator}
use Rattle.idl_value.specs.declared.operator.BinaryOperator.TheVariants.{Or, ExclusiveOr, And, ShiftLeft, ShiftRight, Add, Subtract, Multiply, Divide, Remainder}
use Rattle.idl_value.specs.declared.outcome.ValueCode.{ValueCode}
use Rattle.idl_value.specs.declared.outcome.ValueCode.TheVariants.{OutOfRange, DivisionByZero, BadShift}

-- a part of a value of the type
abbrev pub in_parts : IntegerKind → ℤ → Result ℤ ValueCode
in_parts kind v = cond (holds_part kind v) (Ok v) (Err OutOfRange)

-- a quotient is cut towards zero
abbrev pub divided : IntegerKind → ℤ → ℤ → Result ℤ ValueCode
divided kind a (pos zero) = Err DivisionByZero
divided kind a d = in_parts kind (int_div a d)

-- a remainder has the sign of the dividend
abbrev pub remaining : IntegerKind → ℤ → ℤ → Result ℤ ValueCode
remaining kind a (pos zero) = Err DivisionByZero
remaining kind a d = in_parts kind (int_rem a d)

-- by 0 to 63 places
abbrev pub shifted_left : IntegerKind → ℤ → ℤ → Result ℤ ValueCode
shifted_left kind a (pos k) = cond (nat_lt k 64) (in_parts kind (a *ℤ power k)) (Err BadShift)
shifted_left kind a (negsuc k) = Err BadShift

-- the same, and of nothing negative
abbrev pub shifted_right : IntegerKind → ℤ → ℤ → Result ℤ ValueCode
shifted_right kind (pos a) (pos k) =
    cond (nat_lt k 64) (in_parts kind (pos (a / 2 ^ k))) (Err BadShift)
shifted_right kind (negsuc a) k = Err BadShift
shifted_right kind (pos a) (negsuc k) = Err BadShift

abbrev pub operate : IntegerKind → BinaryOperator → ℤ → ℤ → Result ℤ ValueCode
operate kind Or a b = in_parts kind (whole_or a b)
operate kind ExclusiveOr a b = in_parts kind (whole_xor a b)
operate kind And a b = in_parts kind (whole_and a b)
operate kind ShiftLeft a b = shifted_left kind a b
operate kind ShiftRight a b = shifted_right kind a b
operate kind Add a b = in_parts kind (a +ℤ b)
operate kind Subtract a b = in_parts kind (a -ℤ b)
operate kind Multiply a b = in_parts kind (a *ℤ b)
operate kind Divide a b = divided kind a b
operate kind Remainder a b = remaining kind a b

-- `~v` in a type
abbrev pub complement : IntegerKind → ℤ → ℤ
complement kind v =
    cond (is_signed kind) (neg_ℤ (v +ℤ pos 1)) (pos (2 ^ width kind - 1) -ℤ v)

-- an operator before its operand
abbrev pub operate_sign : IntegerKind → UnaryOperator → ℤ → Result ℤ ValueCode
operate_sign kind unary.Plus v = in_parts kind v
operate_sign kind unary.Minus v = in_parts kind (neg_ℤ v)
operate_sign kind unary.Complement v = in_parts kind (complement kind v)
