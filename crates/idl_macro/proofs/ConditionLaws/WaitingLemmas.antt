-- What the entries stand for, before and after a step of the reading.
use Rattle.std.proofs.Common.{◌≡◌, ◌≢◌, ℕ, ◌<◌, ◌≤◌, List, [], ◌∷◌, ◌++◌, None, Some, pos, refl, sym, ◌∙◌, ap, arith}
use Rattle.idl_macro.specs.conditions.Arithmetic.{Value, checked}
use Rattle.idl_macro.specs.conditions.Operator.{rank, application, sign_application}
use Rattle.idl_macro.specs.conditions.Condition.{Chain, Tail, End, Closed, Bad, Front, resolved, after_open, at_end, operand_at, operator_at, sign_of, signed, condition}
use Rattle.idl_macro.specs.conditions.Waiting.{meaning, meaning_at, IsAbove, IsBelow, IsComplete}
use Rattle.idl_macro.specs.declared.conditions.condition.Awaited.{Awaited}
use Rattle.idl_macro.specs.declared.conditions.condition.Awaited.TheVariants.{BeforeOperand, AfterOperand, Nowhere}
use Rattle.idl_macro.specs.declared.conditions.operator.Operator.{Operator}
use Rattle.idl_macro.specs.declared.conditions.operator.Sign.{Sign}
use Rattle.idl_macro.specs.declared.conditions.stack.Waiting.{Waiting}
use Rattle.idl_macro.specs.declared.conditions.stack.Waiting.TheVariants.{Infix, Prefix, Parenthesis}
use Rattle.idl_macro.specs.declared.conditions.symbol.ConditionSymbol.{ConditionSymbol}
use Rattle.idl_macro.specs.declared.conditions.symbol.ConditionSymbol.TheVariants as symbol
use Rattle.idl_macro.proofs.ConditionLaws.ChainLemmas.{HasRank, resolved-first, resolved-behind}

-- ---- entries that are taken away

meaning-behind : (es : List Waiting) (x : Value) (front : Chain) (q : Operator) (a : Value) (o : Operator) (v : Value) (ps : Chain) (t : Tail) → HasRank o → rank q < rank o → IsBelow ps (rank o) →
    meaning es x (front ++ (q, a) ∷ (o, v) ∷ ps) t ≡ meaning es x (front ++ (q, application o a v) ∷ ps) t
unfolding meaning
meaning-behind [] x front q a o v ps t ranked lower below = ap (λ w. at_end w t) (resolved-behind x front q a o v ps ranked lower below)
meaning-behind (Infix b p ∷ es) x front q a o v ps t ranked lower below = meaning-behind es b ((p, x) ∷ front) q a o v ps t ranked lower below
meaning-behind (Prefix s ∷ es) x front q a o v ps t ranked lower below = meaning-behind es (sign_application s x) front q a o v ps t ranked lower below
meaning-behind (Parenthesis ∷ es) x front q a o v ps End ranked lower below = refl
meaning-behind (Parenthesis ∷ es) x front q a o v ps (Closed d t) ranked lower below = ap (λ w. meaning es w d t) (resolved-behind x front q a o v ps ranked lower below)
meaning-behind (Parenthesis ∷ es) x front q a o v ps Bad ranked lower below = refl

-- an operator that waits gets its right operand
pub meaning-infix : (es : List Waiting) (a : Value) (o : Operator) (v : Value) (ps : Chain) (t : Tail) → HasRank o → IsAbove es (rank o) → IsBelow ps (rank o) →
    meaning es (application o a v) ps t ≡ meaning (Infix a o ∷ es) v ps t
unfolding meaning
meaning-infix [] a o v ps t ranked above below = ap (λ w. at_end w t) (sym (resolved-first a o v ps ranked below))
meaning-infix (Infix b q ∷ es) a o v ps t ranked above below = sym (meaning-behind es b [] q a o v ps t ranked above below)
meaning-infix (Prefix s ∷ es) a o v ps t ranked above below = absurd above
meaning-infix (Parenthesis ∷ es) a o v ps End ranked above below = refl
meaning-infix (Parenthesis ∷ es) a o v ps (Closed d t) ranked above below = ap (λ w. meaning es w d t) (sym (resolved-first a o v ps ranked below))
meaning-infix (Parenthesis ∷ es) a o v ps Bad ranked above below = refl

-- a sign that waits gets its operand
pub meaning-prefix : (es : List Waiting) (s : Sign) (v : Value) (c : Chain) (t : Tail) → meaning es (sign_application s v) c t ≡ meaning (Prefix s ∷ es) v c t
unfolding meaning
meaning-prefix es s v c t = refl

pub IsComplete-above : (es : List Waiting) (r : ℕ) → IsAbove es r → IsComplete es
IsComplete-above [] r above = above
IsComplete-above (Infix a o ∷ es) r above = tt {0}
IsComplete-above (Prefix s ∷ es) r above = above
IsComplete-above (Parenthesis ∷ es) r above = above

pub IsBelow-higher : (c : Chain) (r s : ℕ) → r ≤ s → IsBelow c r → IsBelow c s
IsBelow-higher [] r s le below = below
IsBelow-higher (p ∷ ps) r s le below = omega arith

-- ---- a symbol where an operand has to follow

-- what no condition has makes the whole faulty
meaning-bad : (es : List Waiting) (v : Value) (c : Chain) → meaning es v c Bad ≡ None
unfolding meaning
meaning-bad [] v c = refl
meaning-bad (Infix a o ∷ es) v c = meaning-bad es a ((o, v) ∷ c)
meaning-bad (Prefix s ∷ es) v c = meaning-bad es (sign_application s v) c
meaning-bad (Parenthesis ∷ es) v c = refl

pub meaning_at-operand : (es es' : List Waiting) (v w : Value) (ss : List ConditionSymbol) → ((c : Chain) (t : Tail) → meaning es' w c t ≡ meaning es v c t) →
    meaning_at (AfterOperand w) es' ss ≡ meaning_at (AfterOperand v) es ss
unfolding meaning_at
meaning_at-operand es es' v w ss same = same (operator_at ss).chain (operator_at ss).tail

pub meaning_at-number : (es : List Waiting) (n : ℕ) (ss : List ConditionSymbol) → meaning_at (AfterOperand (checked (pos n))) es ss ≡ meaning_at BeforeOperand es (symbol.Number n ∷ ss)
unfolding meaning_at operand_at
meaning_at-number es n ss = refl

pub meaning_at-name : (es : List Waiting) (ss : List ConditionSymbol) → meaning_at (AfterOperand (Some (pos 0))) es ss ≡ meaning_at BeforeOperand es (symbol.Name ∷ ss)
unfolding meaning_at operand_at
meaning_at-name es ss = refl

open-tail : (es : List Waiting) (v : Value) (c : Chain) (t : Tail) →
    meaning (Parenthesis ∷ es) v c t ≡ meaning es (after_open (resolved v c) t).first (after_open (resolved v c) t).chain (after_open (resolved v c) t).tail
unfolding meaning
open-tail es v c End = sym (meaning-bad es None [])
open-tail es v c (Closed d t) = refl
open-tail es v c Bad = sym (meaning-bad es None [])

pub meaning_at-open : (es : List Waiting) (ss : List ConditionSymbol) → meaning_at BeforeOperand (Parenthesis ∷ es) ss ≡ meaning_at BeforeOperand es (symbol.Open ∷ ss)
unfolding meaning_at operand_at
meaning_at-open es ss = open-tail es (operand_at ss).first (operand_at ss).chain (operand_at ss).tail

-- a symbol that is neither an operand nor a parenthesis is read as the sign that it is
operand_at-sign : (k : ConditionSymbol) (ss : List ConditionSymbol) → ((n : ℕ) → k ≢ symbol.Number n) → k ≢ symbol.Name → k ≢ symbol.Open → operand_at (k ∷ ss) ≡ signed (sign_of k) (operand_at ss)
unfolding operand_at
operand_at-sign (symbol.Number n) ss a b c = absurd (a n refl)
operand_at-sign symbol.Name ss a b c = absurd (b refl)
operand_at-sign (symbol.Operator o) ss a b c = refl
operand_at-sign symbol.Not ss a b c = refl
operand_at-sign symbol.Complement ss a b c = refl
operand_at-sign symbol.Open ss a b c = absurd (c refl)
operand_at-sign symbol.Close ss a b c = refl
operand_at-sign symbol.Other ss a b c = refl

abbrev meaning_of : List Waiting → Front → Value
meaning_of es f = meaning es f.first f.chain f.tail

pub meaning_at-sign : (es : List Waiting) (k : ConditionSymbol) (s : Sign) (ss : List ConditionSymbol) → ((n : ℕ) → k ≢ symbol.Number n) → k ≢ symbol.Name → k ≢ symbol.Open → sign_of k ≡ Some s →
    meaning_at BeforeOperand (Prefix s ∷ es) ss ≡ meaning_at BeforeOperand es (k ∷ ss)
unfolding meaning_at
meaning_at-sign es k s ss a b c e =
    let f = operand_at ss in
    sym (meaning-prefix es s f.first f.chain f.tail) ∙ sym (ap (meaning_of es) (operand_at-sign k ss a b c ∙ ap (λ u. signed u f) e))

pub meaning_at-no-operand : (es es' : List Waiting) (k : ConditionSymbol) (ss : List ConditionSymbol) → ((n : ℕ) → k ≢ symbol.Number n) → k ≢ symbol.Name → k ≢ symbol.Open → sign_of k ≡ None →
    meaning_at Nowhere es' ss ≡ meaning_at BeforeOperand es (k ∷ ss)
unfolding meaning_at
meaning_at-no-operand es es' k ss a b c e =
    let f = operand_at ss in
    sym (ap (meaning_of es) (operand_at-sign k ss a b c ∙ ap (λ u. signed u f) e) ∙ meaning-bad es None [])

-- ---- a symbol after an operand

pub meaning_at-operator : (es es' : List Waiting) (v w : Value) (o : Operator) (r : ℕ) (ss : List ConditionSymbol) → ((c : Chain) (t : Tail) → IsBelow c r → meaning es' w c t ≡ meaning es v c t) → r ≡ rank o →
    meaning_at BeforeOperand (Infix w o ∷ es') ss ≡ meaning_at (AfterOperand v) es (symbol.Operator o ∷ ss)
unfolding meaning_at meaning operand_at
meaning_at-operator es es' v w o r ss same e = same ((o, (operand_at ss).first) ∷ (operand_at ss).chain) (operand_at ss).tail (omega arith)

-- these entries and this operand stand for the same as those, where no operator follows
abbrev pub SettlesTo : List Waiting → Value → List Waiting → Value → Type 0
SettlesTo es v es' w = (c : Chain) (t : Tail) → IsBelow c 0 → meaning es' w c t ≡ meaning es v c t

meaning_at-close-settled : (es es' : List Waiting) (v w : Value) (ss : List ConditionSymbol) → SettlesTo es v es' w →
    meaning es' w [] (Closed (operator_at ss).chain (operator_at ss).tail) ≡ meaning_at (AfterOperand v) es (symbol.Close ∷ ss)
unfolding meaning_at operand_at
meaning_at-close-settled es es' v w ss same = same [] (Closed (operator_at ss).chain (operator_at ss).tail) (tt {0})

-- the parenthesis that is closed
pub meaning_at-close : (es below : List Waiting) (v w : Value) (ss : List ConditionSymbol) → SettlesTo es v (Parenthesis ∷ below) w →
    meaning_at (AfterOperand w) below ss ≡ meaning_at (AfterOperand v) es (symbol.Close ∷ ss)
unfolding meaning_at meaning resolved
meaning_at-close es below v w ss same = meaning_at-close-settled es (Parenthesis ∷ below) v w ss same

-- a parenthesis is closed that was not opened
pub meaning_at-close-unopened : (es es' : List Waiting) (v w : Value) (ss : List ConditionSymbol) → SettlesTo es v [] w →
    meaning_at Nowhere es' ss ≡ meaning_at (AfterOperand v) es (symbol.Close ∷ ss)
unfolding meaning_at meaning
meaning_at-close-unopened es es' v w ss same = meaning_at-close-settled es [] v w ss same

pub meaning_at-no-operator : (es es' : List Waiting) (v : Value) (k : ConditionSymbol) (ss : List ConditionSymbol) → ((o : Operator) → k ≢ symbol.Operator o) → k ≢ symbol.Close →
    meaning_at Nowhere es' ss ≡ meaning_at (AfterOperand v) es (k ∷ ss)
unfolding meaning_at operand_at
meaning_at-no-operator es es' v (symbol.Number n) ss a b = sym (meaning-bad es v [])
meaning_at-no-operator es es' v symbol.Name ss a b = sym (meaning-bad es v [])
meaning_at-no-operator es es' v (symbol.Operator o) ss a b = absurd (a o refl)
meaning_at-no-operator es es' v symbol.Not ss a b = sym (meaning-bad es v [])
meaning_at-no-operator es es' v symbol.Complement ss a b = sym (meaning-bad es v [])
meaning_at-no-operator es es' v symbol.Open ss a b = sym (meaning-bad es v [])
meaning_at-no-operator es es' v symbol.Close ss a b = absurd (b refl)
meaning_at-no-operator es es' v symbol.Other ss a b = sym (meaning-bad es v [])

-- ---- the two ends

pub meaning_at-start : (ss : List ConditionSymbol) → meaning_at BeforeOperand [] ss ≡ condition ss
unfolding meaning_at meaning condition
meaning_at-start ss = refl

pub meaning_at-nowhere : (es : List Waiting) (ss : List ConditionSymbol) → None ≡ meaning_at Nowhere es ss
unfolding meaning_at
meaning_at-nowhere es ss = refl

-- no operand stands last
pub meaning_at-end-open : (p : Awaited) (es : List Waiting) → ((v : Value) → p ≢ AfterOperand v) → None ≡ meaning_at p es []
unfolding meaning_at operand_at
meaning_at-end-open BeforeOperand es ne = sym (meaning-bad es None [])
meaning_at-end-open (AfterOperand v) es ne = absurd (ne v refl)
meaning_at-end-open Nowhere es ne = refl

meaning_at-end-settled : (es es' : List Waiting) (v w : Value) → SettlesTo es v es' w →
    meaning es' w [] End ≡ meaning_at (AfterOperand v) es []
unfolding meaning_at operand_at
meaning_at-end-settled es es' v w same = same [] End (tt {0})

pub meaning_at-end-closed : (es : List Waiting) (v w : Value) → SettlesTo es v [] w →
    w ≡ meaning_at (AfterOperand v) es []
unfolding meaning resolved
meaning_at-end-closed es v w same = meaning_at-end-settled es [] v w same

-- what still waits where all operators are settled is a parenthesis
pub meaning_at-end-unclosed : (es : List Waiting) (v w : Value) (e : Waiting) (below : List Waiting) → SettlesTo es v (e ∷ below) w → IsAbove (e ∷ below) 0 →
    None ≡ meaning_at (AfterOperand v) es []
unfolding meaning
meaning_at-end-unclosed es v w (Infix a o) below same above = absurd (omega (arith, above))
meaning_at-end-unclosed es v w (Prefix s) below same above = absurd above
meaning_at-end-unclosed es v w Parenthesis below same above = meaning_at-end-settled es (Parenthesis ∷ below) v w same
