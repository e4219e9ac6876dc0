-- Operators at values: they are of whole numbers, for an integer type.
use Rattle.std.specs.Prelude.{Result, Err}
use Rattle.idl_value.specs.Evaluation.{whole}
use Rattle.idl_value.specs.Operate.{operate, operate_sign}
use Rattle.idl_value.specs.declared.constant_type.ConstantType.{ConstantType}
use Rattle.idl_value.specs.declared.constant_type.ConstantType.TheVariants as target
use Rattle.idl_value.specs.declared.operator.BinaryOperator.{BinaryOperator}
use Rattle.idl_value.specs.declared.outcome.ValueCode.{ValueCode}
use Rattle.idl_value.specs.declared.outcome.ValueCode.TheVariants.{WrongKind}
use Rattle.idl_value.specs.declared.value.Value.{Value}
use Rattle.idl_value.specs.declared.value.Value.TheVariants as value
use Rattle.idl_tree.specs.declared.expression.UnaryOperator.{UnaryOperator}

abbrev pub between : ConstantType → BinaryOperator → Value → Value → Result Value ValueCode
between (target.Integer kind) operator (value.Integer a) (value.Integer b) =
    whole (operate kind operator a b)
between target operator a b = Err WrongKind

abbrev pub before : ConstantType → UnaryOperator → Value → Result Value ValueCode
before (target.Integer kind) sign (value.Integer a) = whole (operate_sign kind sign a)
before target sign a = Err WrongKind
