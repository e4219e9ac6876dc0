-- The expressions of C that a condition may be, with their values (C 2011, 6.5.1, 6.5.3.3 and 6.5.5
-- to 6.5.14).
use Rattle.std.specs.Prelude.{◌≡◌, ℕ, suc, ◌≤◌, List, [], ◌∷◌, ◌++◌, Some, pos}
use Rattle.idl_macro.specs.conditions.Arithmetic.{Value, checked}
use Rattle.idl_macro.specs.conditions.Operator.{rank, highest_rank, application, sign_application}
use Rattle.idl_macro.specs.conditions.Condition.{sign_of}
use Rattle.idl_macro.specs.declared.conditions.operator.Operator.{Operator}
use Rattle.idl_macro.specs.declared.conditions.operator.Sign.{Sign}
use Rattle.idl_macro.specs.declared.conditions.symbol.ConditionSymbol.{ConditionSymbol}
use Rattle.idl_macro.specs.declared.conditions.symbol.ConditionSymbol.TheVariants as symbol

-- the rank of operands: above those of all operators between two
abbrev pub operand_rank : ℕ
operand_rank = suc highest_rank

-- The symbols are an expression with this value, whose operators outside parentheses are of this
-- rank at least. The left operand of an operator may have operators of the same rank, and the right
-- one has higher ones alone.
pub data HasValue : ℕ → List ConditionSymbol → Value → Type 0 where
  number : (r n : ℕ) → HasValue r (symbol.Number n ∷ []) (checked (pos n))
  name : (r : ℕ) → HasValue r (symbol.Name ∷ []) (Some (pos 0))
  parenthesized : (r : ℕ) (ss : List ConditionSymbol) (v : Value) → HasValue 1 ss v
      → HasValue r (symbol.Open ∷ (ss ++ symbol.Close ∷ [])) v
  prefixed : (r : ℕ) (k : ConditionSymbol) (s : Sign) (ss : List ConditionSymbol) (v : Value) → sign_of k ≡ Some s
      → HasValue operand_rank ss v
      → HasValue r (k ∷ ss) (sign_application s v)
  infixed : (r : ℕ) (o : Operator) (ls rs : List ConditionSymbol) (a b : Value) → r ≤ rank o
      → HasValue (rank o) ls a → HasValue (suc (rank o)) rs b
      → HasValue r (ls ++ symbol.Operator o ∷ rs) (application o a b)
