-- The values of a unit's expressions, in the order of their tokens.
use Rattle.std.specs.Prelude.{◌≡◌, List, [], ◌∷◌, flat_map, Option}
use Rattle.idl_check.specs.told.Values.{evaluation_for}
use Rattle.idl_parts.specs.Item.{Item}
use Rattle.idl_parts.specs.Part.{Part as item}
use Rattle.idl_parts.specs.declared.part.Purpose.{Purpose}
use Rattle.idl_tree.specs.declared.expression.Expression.{Expression}
use Rattle.idl_value.specs.Evaluation.{Operands, Valued}
use Rattle.idl_value.specs.Names.{AreGiven}
use Rattle.idl_value.specs.declared.constant_type.ConstantType.{ConstantType}
use Rattle.idl_value.specs.declared.value.Value.{Value}

-- the expressions that end at sites, each with what it is for
abbrev pub expression_at : Item → List (Purpose × Expression)
expression_at (item.ValueEnds way e) = (way, e) ∷ []
expression_at other = []

abbrev pub expressions : List Item → List (Purpose × Expression)
expressions sites = flat_map expression_at sites

-- A value of an expression that is for this: what the expression comes to, where each of its names
-- has a value, and where constants and labels are of these types.
pub record IsValue (way : Purpose) (e : Expression) (v : Value) : Type 0 where
  pub constant : Option ConstantType
  pub label : Option ConstantType
  pub operands : Operands
  pub given : AreGiven operands e
  pub is : evaluation_for way constant label operands e ≡ Valued v

-- values of these expressions, one of each, in order
abbrev pub AreValues : List (Purpose × Expression) → List Value → Type 0
AreValues [] [] = Unit {0}
AreValues [] (v ∷ values) = ⊥
AreValues (e ∷ expressions) [] = ⊥
AreValues (e ∷ expressions) (v ∷ values) = IsValue e.0 e.1 v × AreValues expressions values
