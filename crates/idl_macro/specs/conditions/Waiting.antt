-- What entries that wait for an operand stand for, the last that came first.
use Rattle.std.specs.Prelude.{ℕ, ◌<◌, ◌≤◌, List, [], ◌∷◌, None, ⊤}
use Rattle.idl_macro.specs.conditions.Arithmetic.{Value}
use Rattle.idl_macro.specs.conditions.Operator.{rank, sign_application}
use Rattle.idl_macro.specs.conditions.Condition.{Chain, Tail, End, Closed, Bad, resolved, at_end, operand_at, operator_at}
use Rattle.idl_macro.specs.declared.conditions.condition.Awaited.{Awaited}
use Rattle.idl_macro.specs.declared.conditions.condition.Awaited.TheVariants.{BeforeOperand, AfterOperand, Nowhere}
use Rattle.idl_macro.specs.declared.conditions.stack.Waiting.{Waiting}
use Rattle.idl_macro.specs.declared.conditions.stack.Waiting.TheVariants.{Infix, Prefix, Parenthesis}
use Rattle.idl_macro.specs.declared.conditions.symbol.ConditionSymbol.{ConditionSymbol}

-- the value of the whole, where an operand with its chain and what follows come after these entries
unfoldable pub meaning : List Waiting → Value → Chain → Tail → Value
meaning [] v c t = at_end (resolved v c) t
meaning (Infix a o ∷ es) v c t = meaning es a ((o, v) ∷ c) t
meaning (Prefix s ∷ es) v c t = meaning es (sign_application s v) c t
meaning (Parenthesis ∷ es) v c End = None
meaning (Parenthesis ∷ es) v c (Closed d t) = meaning es (resolved v c) d t
meaning (Parenthesis ∷ es) v c Bad = None

-- the value of the whole, where these entries wait and these symbols follow
unfoldable pub meaning_at : Awaited → List Waiting → List ConditionSymbol → Value
meaning_at BeforeOperand es ss =
    meaning es (operand_at ss).first (operand_at ss).chain (operand_at ss).tail
meaning_at (AfterOperand v) es ss = meaning es v (operator_at ss).chain (operator_at ss).tail
meaning_at Nowhere es ss = None

-- the operator that waits last, if one does, is of a lower rank than this one
abbrev pub IsAbove : List Waiting → ℕ → Type 0
IsAbove [] r = ⊤
IsAbove (Infix a o ∷ es) r = rank o < r
IsAbove (Prefix s ∷ es) r = ⊥
IsAbove (Parenthesis ∷ es) r = ⊤

-- no operator waits that stands before its operand
abbrev pub IsComplete : List Waiting → Type 0
IsComplete [] = ⊤
IsComplete (Infix a o ∷ es) = ⊤
IsComplete (Prefix s ∷ es) = ⊥
IsComplete (Parenthesis ∷ es) = ⊤

-- within parentheses the operators that wait stand in rising ranks
abbrev pub IsRising : List Waiting → Type 0
IsRising [] = ⊤
IsRising (Infix a o ∷ es) = IsAbove es (rank o) × IsRising es
IsRising (Prefix s ∷ es) = IsRising es
IsRising (Parenthesis ∷ es) = IsRising es

-- the operator that follows is of no higher rank
abbrev pub IsBelow : Chain → ℕ → Type 0
IsBelow [] r = ⊤
IsBelow (p ∷ ps) r = rank p.0 ≤ r

-- the entries are in order, and no sign waits for an operand that is there
abbrev pub IsSound : Awaited → List Waiting → Type 0
IsSound BeforeOperand es = IsRising es
IsSound (AfterOperand v) es = IsRising es × IsComplete es
IsSound Nowhere es = ⊤
