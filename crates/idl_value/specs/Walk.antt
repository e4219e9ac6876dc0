-- Words for the walk over an expression, which keeps of its faults the first.
use Rattle.std.specs.Prelude.{ℕ, zero, ℤ, pos, Bool, true, if◌then◌else◌, length, Option, None, Some, Result, Ok, Err}
use Rattle.idl_tree.specs.Expression.{spell_literal}
use Rattle.idl_tree.specs.declared.expression.UnaryOperator.{UnaryOperator}
use Rattle.idl_value.specs.Evaluation.{Operands, admitted, ahead, behind, combined, fault, is_held, literal_value, number_in, operand_at, signed_value}
use Rattle.idl_value.specs.Term.{Term, Named, Literally, Parenthesised, Signed, Chain, Links, End, Link}
use Rattle.idl_value.specs.declared.operator.BinaryOperator.{BinaryOperator}
use Rattle.idl_value.specs.declared.outcome.ValueCode.{ValueCode}
use Rattle.idl_value.specs.declared.outcome.ValueCode.TheVariants.{NotPositive, OutOfRange}
use Rattle.idl_value.specs.declared.outcome.Outcome.{Outcome}
use Rattle.idl_value.specs.declared.outcome.Outcome.TheVariants as outcome
use Rattle.idl_value.specs.declared.part_value.PartValue.{PartValue}
use Rattle.idl_value.specs.declared.part_value.PartValue.TheVariants as part
use Rattle.idl_value.specs.declared.constant_type.ConstantType.{ConstantType}
use Rattle.idl_value.specs.declared.value.Value.{Value}
use Rattle.idl_value.specs.declared.value.Value.TheVariants as value
use Rattle.idl_value.specs.declared.walk.Passed.{Passed}
use Rattle.idl_value.specs.declared.walk.Worked.{Worked}

-- the outcome that a part is
abbrev pub seen : PartValue → Outcome
seen (part.Integer z) = outcome.Value (value.Integer z)
seen (part.Literal l) = outcome.Value (literal_value l.now)
seen (part.Named v) = outcome.Value v.now
seen (part.Fault f) = outcome.Fault f
seen part.Told = outcome.Told

-- what a part of an expression comes to, and the place behind it
pub record Walked : Type 0 where
  pub outcome : Outcome
  pub place : Passed

abbrev pub stepped : Worked → Walked
stepped step = record { outcome = seen step.part; place = step.place }

abbrev pub outcome_at : ℕ → Result Value ValueCode → Outcome
outcome_at token (Ok v) = outcome.Value v
outcome_at token (Err code) = outcome.Fault (fault token code)

abbrev pub named_outcome : ConstantType → ℕ → Option Value → Outcome
named_outcome target token None = outcome.Told
named_outcome target token (Some v) = outcome_at token (admitted target v)

-- the whole number that it is
abbrev pub outcome_number : Outcome → Option ℤ
outcome_number (outcome.Value v) = number_in v
outcome_number other = None

-- of two operands' faults the first
abbrev pub operated_outcome : ConstantType → ℕ → BinaryOperator → Outcome → Outcome → Outcome
operated_outcome target token operator (outcome.Value a) (outcome.Value b) =
    outcome_at token (combined target operator a b)
operated_outcome target token operator (outcome.Value a) right = right
operated_outcome target token operator (outcome.Fault f) right = outcome.Fault f
operated_outcome target token operator outcome.Told (outcome.Fault f) = outcome.Fault f
operated_outcome target token operator outcome.Told right = outcome.Told

abbrev pub signed_outcome : ConstantType → ℕ → UnaryOperator → Outcome → Outcome
signed_outcome target token sign (outcome.Value a) = outcome_at token (signed_value target sign a)
signed_outcome target token sign other = other

abbrev pub walk_sign : ConstantType → ℕ → UnaryOperator → Walked → Walked
walk_sign target token sign operand = record {
  outcome = signed_outcome target token sign operand.outcome;
  place = operand.place;
}

abbrev pub walk_parenthesis : Walked → Walked
walk_parenthesis inner = record { outcome = inner.outcome; place = behind inner.place 1 0 }

abbrev pub walk_operator : ConstantType → BinaryOperator → Walked → Walked → Walked
walk_operator target operator left right = record {
  outcome = operated_outcome target left.place.token operator left.outcome right.outcome;
  place = right.place;
}

abbrev mutual
  pub walk_term : ConstantType → Operands → Passed → Term → Walked
  walk_term target operands place (Named before) = record {
    outcome =
        named_outcome target (ahead place.token before) (operand_at operands place.name);
    place = behind (behind place before 0) 1 1;
  }
  walk_term target operands place (Literally l) = record {
    outcome = outcome_at place.token (admitted target (literal_value l));
    place = behind place (length (spell_literal l)) 0;
  }
  walk_term target operands place (Parenthesised inner) =
      walk_parenthesis (walk_term target operands (behind place 1 0) inner)
  walk_term target operands place (Signed sign operand) =
      walk_sign target place.token sign (walk_term target operands (behind place 1 0) operand)
  walk_term target operands place (Chain first rest) =
      walk_links target operands (walk_term target operands place first) rest

  pub walk_links : ConstantType → Operands → Walked → Links → Walked
  walk_links target operands left End = left
  walk_links target operands left (Link operator term rest) =
      walk_links target operands
      (walk_operator target operator left
      (walk_term target operands (behind left.place 1 0) term)) rest

-- the same of the whole expression
abbrev pub is_held_outcome : ConstantType → Outcome → Bool
is_held_outcome target (outcome.Value v) = is_held target v
is_held_outcome target other = true

abbrev pub held_outcome : ConstantType → Outcome → Outcome
held_outcome target other =
    if is_held_outcome target other then other else outcome.Fault (fault 0 OutOfRange)

abbrev pub positive_outcome : Outcome → Outcome
positive_outcome (outcome.Value (value.Integer (pos zero))) = outcome.Fault (fault 0 NotPositive)
positive_outcome other = other
