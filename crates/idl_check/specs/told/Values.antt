-- The expressions of a unit: what is known while one is read, and what it comes to at its end.
use Rattle.std.specs.Prelude.{ℕ, ◌^◌, pos, List, [], ◌∷◌, ◌++◌, Option, None, Some, nat_lt, option_to_list, if◌then◌else◌}
use Rattle.idl_fault.specs.declared.code.Code.{Code}
use Rattle.idl_fault.specs.declared.code.Code.TheVariants as code
use Rattle.idl_tree.specs.declared.expression.Expression.{Expression}
use Rattle.idl_parts.specs.declared.part.Purpose.{Purpose}
use Rattle.idl_parts.specs.declared.part.Purpose.TheVariants as purpose
use Rattle.idl_value.specs.Evaluation.{Evaluation, Faulty, Operands, bound_of, value_of}
use Rattle.idl_value.specs.declared.outcome.ValueCode.{ValueCode}
use Rattle.idl_value.specs.declared.outcome.ValueCode.TheVariants as value_code
use Rattle.idl_value.specs.declared.constant_type.ConstantType.{ConstantType}
use Rattle.idl_value.specs.declared.value.Value.{Value}
use Rattle.idl_value.specs.declared.value.Value.TheVariants as value

-- how far the expressions of a unit have come
pub record Values : Type 0 where
  -- inside one: the number of its first token
  pub begin : Option ℕ
  -- the values of its names so far; none of a name that is faulty
  pub operands : Operands
  -- those of the expressions before, in order
  pub told : List Value
  -- the last bound, and the lengths of an array so far
  pub bound : Option ℕ
  pub lengths : List ℕ
  -- the value of a constant
  pub constant : Option Value

abbrev pub no_values : Values
no_values = record {
  begin = None;
  operands = [];
  told = [];
  bound = None;
  lengths = [];
  constant = None;
}

-- what is kept of the expressions of a unit that has some
pub record ValuesSoFar : Type 0 where
  pub operands : Operands
  pub told : List Value
  pub lengths : List ℕ

abbrev pub nothing_kept : ValuesSoFar
nothing_kept = record { operands = []; told = []; lengths = [] }

-- where an expression begins, and behind its end
abbrev pub begun_at : ℕ → Values → Values
begun_at at values = record values { begin = Some at; operands = [] }

abbrev pub with_operand : Option Value → Values → Values
with_operand v values = record values { operands = values.operands ++ v ∷ [] }

-- what an expression comes to for a type, if it is known; else its faults are told elsewhere
abbrev pub evaluation_in : Option ConstantType → Operands → Expression → Evaluation
evaluation_in (Some t) operands e = value_of t operands e
evaluation_in None operands e = Faulty []

-- what an expression comes to that is for this, where constants and labels are to be of these types
abbrev pub evaluation_for : Purpose → Option ConstantType → Option ConstantType → Operands → Expression
    → Evaluation
evaluation_for purpose.Bound constant label operands e = bound_of operands e
evaluation_for purpose.Length constant label operands e = bound_of operands e
evaluation_for purpose.Constant constant label operands e = evaluation_in constant operands e
evaluation_for purpose.Label constant label operands e = evaluation_in label operands e

-- the code of a fault in an expression
abbrev pub code_of : ValueCode → Code
code_of value_code.WrongKind = code.OtherType
code_of value_code.OutOfRange = code.OutOfRange
code_of value_code.DivisionByZero = code.DivisionByZero
code_of value_code.BadShift = code.BadShift
code_of value_code.NotPositive = code.BoundNotPositive

-- a bound as a number
abbrev pub number_of : Value → Option ℕ
number_of (value.Integer (pos n)) = if nat_lt n (2 ^ 32) then Some n else None
number_of other = None

-- behind an expression that is for this and has a value
abbrev pub told_as : Purpose → Value → Values → Values
told_as purpose.Bound v values = record values { bound = number_of v }
told_as purpose.Constant v values = record values { constant = Some v }
told_as purpose.Length v values =
    record values { lengths = values.lengths ++ option_to_list (number_of v) }
told_as purpose.Label v values = values

abbrev pub with_value : Purpose → Value → Values → Values
with_value way v values =
    told_as way v (record values { begin = None; told = values.told ++ v ∷ [] })
