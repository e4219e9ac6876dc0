-- The value of a condition is that of the expression that its symbols are.
use Rattle.std.proofs.Common.{◌≡◌, ℕ, suc, ◌<◌, ◌≤◌, List, [], ◌∷◌, ◌++◌, refl, sym, ◌∙◌, ap, arith, append_assoc, append-nil}
use Rattle.std.specs.Bool.{⊤}
use Rattle.idl_macro.specs.conditions.Arithmetic.{Value}
use Rattle.idl_macro.specs.conditions.Operator.{rank, highest_rank, application, sign_application}
use Rattle.idl_macro.specs.conditions.Condition.{Chain, sign_of, operand_at, operator_at, condition}
use Rattle.idl_macro.specs.conditions.Grammar.{operand_rank, HasValue, number, name, parenthesized, prefixed, infixed}
use Rattle.idl_macro.specs.conditions.Waiting.{meaning_at, IsAbove, IsBelow}
use Rattle.idl_macro.specs.declared.conditions.condition.Awaited.TheVariants.{BeforeOperand, AfterOperand}
use Rattle.idl_macro.specs.declared.conditions.operator.Operator.{Operator}
use Rattle.idl_macro.specs.declared.conditions.operator.Operator.TheVariants as op
use Rattle.idl_macro.specs.declared.conditions.operator.Sign.{Sign}
use Rattle.idl_macro.specs.declared.conditions.stack.Waiting.{Waiting}
use Rattle.idl_macro.specs.declared.conditions.stack.Waiting.TheVariants.{Infix, Prefix, Parenthesis}
use Rattle.idl_macro.specs.declared.conditions.symbol.ConditionSymbol.{ConditionSymbol}
use Rattle.idl_macro.specs.declared.conditions.symbol.ConditionSymbol.TheVariants as symbol
use Rattle.idl_macro.proofs.ConditionLaws.ChainLemmas.{HasRank}
use Rattle.idl_macro.proofs.ConditionLaws.WaitingLemmas.{meaning-infix, meaning-prefix, IsBelow-higher, meaning_at-number, meaning_at-name, meaning_at-open, meaning_at-sign, meaning_at-operator, meaning_at-close, meaning_at-start, meaning_at-end-closed}

pub HasRank-all : (o : Operator) → HasRank o
HasRank-all op.Or = record { low = omega arith; high = omega arith }
HasRank-all op.And = record { low = omega arith; high = omega arith }
HasRank-all op.BitOr = record { low = omega arith; high = omega arith }
HasRank-all op.BitXor = record { low = omega arith; high = omega arith }
HasRank-all op.BitAnd = record { low = omega arith; high = omega arith }
HasRank-all op.Equal = record { low = omega arith; high = omega arith }
HasRank-all op.NotEqual = record { low = omega arith; high = omega arith }
HasRank-all op.Less = record { low = omega arith; high = omega arith }
HasRank-all op.LessOrEqual = record { low = omega arith; high = omega arith }
HasRank-all op.Greater = record { low = omega arith; high = omega arith }
HasRank-all op.GreaterOrEqual = record { low = omega arith; high = omega arith }
HasRank-all op.ShiftLeft = record { low = omega arith; high = omega arith }
HasRank-all op.ShiftRight = record { low = omega arith; high = omega arith }
HasRank-all op.Add = record { low = omega arith; high = omega arith }
HasRank-all op.Subtract = record { low = omega arith; high = omega arith }
HasRank-all op.Multiply = record { low = omega arith; high = omega arith }
HasRank-all op.Divide = record { low = omega arith; high = omega arith }
HasRank-all op.Remainder = record { low = omega arith; high = omega arith }

-- the entry that waits last binds an expression of this rank as its operand
abbrev IsUnder : List Waiting → ℕ → Type 0
IsUnder [] r = ⊤
IsUnder (Infix a o ∷ es) r = rank o < r
IsUnder (Prefix s ∷ es) r = highest_rank < r
IsUnder (Parenthesis ∷ es) r = ⊤

IsUnder-higher : (es : List Waiting) (r s : ℕ) → r ≤ s → IsUnder es r → IsUnder es s
IsUnder-higher [] r s le under = under
IsUnder-higher (Infix a o ∷ es) r s le under = omega (arith, under)
IsUnder-higher (Prefix s ∷ es) r t le under = omega (arith, under)
IsUnder-higher (Parenthesis ∷ es) r s le under = under

IsAbove-under : (es : List Waiting) (r : ℕ) (o : Operator) → r ≤ rank o → IsUnder es r → IsAbove es (rank o)
IsAbove-under [] r o le under = under
IsAbove-under (Infix a q ∷ es) r o le under = omega (arith, under)
IsAbove-under (Prefix s ∷ es) r o le under = let ranked = HasRank-all o in absurd (omega (arith, under, ranked.high))
IsAbove-under (Parenthesis ∷ es) r o le under = under

IsBelow-operand : (c : Chain) → IsBelow c operand_rank
IsBelow-operand [] = tt {0}
IsBelow-operand (p ∷ ps) = let ranked = HasRank-all p.0 in omega (arith, ranked.high)

IsBelow-close : (ss : List ConditionSymbol) → IsBelow (operator_at (symbol.Close ∷ ss)).chain 1
unfolding operand_at
IsBelow-close ss = tt {0}

IsBelow-operator : (o : Operator) (ss : List ConditionSymbol) → IsBelow (operator_at (symbol.Operator o ∷ ss)).chain (rank o)
unfolding operand_at
IsBelow-operator o ss = omega arith

meaning_at-prefix : (es : List Waiting) (s : Sign) (v : Value) (ss : List ConditionSymbol) → meaning_at (AfterOperand v) (Prefix s ∷ es) ss ≡ meaning_at (AfterOperand (sign_application s v)) es ss
unfolding meaning_at
meaning_at-prefix es s v ss = sym (meaning-prefix es s v (operator_at ss).chain (operator_at ss).tail)

meaning_at-infix : (es : List Waiting) (a : Value) (o : Operator) (b : Value) (ss : List ConditionSymbol) → IsAbove es (rank o) → IsBelow (operator_at ss).chain (rank o) →
    meaning_at (AfterOperand b) (Infix a o ∷ es) ss ≡ meaning_at (AfterOperand (application o a b)) es ss
unfolding meaning_at
meaning_at-infix es a o b ss above below = sym (meaning-infix es a o b (operator_at ss).chain (operator_at ss).tail (HasRank-all o) above below)

-- an expression is read as an operand with its value, where what waits and what follows leave it whole
meaning_at-expression : (r : ℕ) (xs : List ConditionSymbol) (v : Value) → HasValue r xs v → (es : List Waiting) (ss : List ConditionSymbol) → IsUnder es r → IsBelow (operator_at ss).chain r →
    meaning_at BeforeOperand es (xs ++ ss) ≡ meaning_at (AfterOperand v) es ss
meaning_at-expression _ _ _ (number r n) es ss under below = sym (meaning_at-number es n ss)
meaning_at-expression _ _ _ (name r) es ss under below = sym (meaning_at-name es ss)
meaning_at-expression _ _ _ (parenthesized r xs v h) es ss under below =
    sym (meaning_at-open es ((xs ++ symbol.Close ∷ []) ++ ss))
    ∙ ap (λ ts. meaning_at BeforeOperand (Parenthesis ∷ es) ts) (append_assoc xs (symbol.Close ∷ []) ss)
    ∙ meaning_at-expression 1 xs v h (Parenthesis ∷ es) (symbol.Close ∷ ss) (tt {0}) (IsBelow-close ss)
    ∙ sym (meaning_at-close (Parenthesis ∷ es) es v v ss (λ c t low. refl))
meaning_at-expression _ _ _ (prefixed r k s xs v e h) es ss under below =
    sym (meaning_at-sign es k s (xs ++ ss) (λ n q. let z = sym (ap sign_of q) ∙ e in cc) (λ q. let z = sym (ap sign_of q) ∙ e in cc) (λ q. let z = sym (ap sign_of q) ∙ e in cc) e)
    ∙ meaning_at-expression operand_rank xs v h (Prefix s ∷ es) ss (omega arith) (IsBelow-operand (operator_at ss).chain)
    ∙ meaning_at-prefix es s v ss
meaning_at-expression _ _ _ (infixed r o ls rs a b le hl hr) es ss under below =
    ap (λ ts. meaning_at BeforeOperand es ts) (append_assoc ls (symbol.Operator o ∷ rs) ss)
    ∙ meaning_at-expression (rank o) ls a hl es (symbol.Operator o ∷ (rs ++ ss)) (IsUnder-higher es r (rank o) le under) (IsBelow-operator o (rs ++ ss))
    ∙ sym (meaning_at-operator es es a a o (rank o) (rs ++ ss) (λ c t low. refl) refl)
    ∙ meaning_at-expression (suc (rank o)) rs b hr (Infix a o ∷ es) ss (omega arith) (IsBelow-higher (operator_at ss).chain r (suc (rank o)) (omega (arith, le)) below)
    ∙ meaning_at-infix es a o b ss (IsAbove-under es r o le under) (IsBelow-higher (operator_at ss).chain r (rank o) le below)

IsBelow-nothing : IsBelow (operator_at []).chain 1
unfolding operand_at
IsBelow-nothing = tt {0}

pub condition-expression : (ss : List ConditionSymbol) (v : Value) → HasValue 1 ss v → condition ss ≡ v
condition-expression ss v h =
    sym (meaning_at-start ss) ∙ ap (λ ts. meaning_at BeforeOperand [] ts) (sym (append-nil ss))
    ∙ meaning_at-expression 1 ss v h [] [] (tt {0}) IsBelow-nothing
    ∙ sym (meaning_at-end-closed [] v v (λ c t low. refl))
