-- The expressions of C that a condition may be, with their values, by how they are spelled (C 2011,
-- 6.5.1, 6.5.3.3 and 6.5.5 to 6.5.14).
use Rattle.std.specs.Prelude.{◌≡◌, ◌≤◌, ◌&&◌, ℕ, suc, false, true, not, List, [], ◌∷◌, ◌++◌, None, Some, ℤ, ◌+ℤ◌, ◌-ℤ◌, ◌*ℤ◌, codes, int_lt, neg_ℤ, pos, if◌then◌else◌}
use Rattle.std.specs.Int.{w64, int_bit_and, int_bit_not, int_bit_or, int_bit_xor}
use Rattle.std.specs.Ordering.{int_eq}
use Rattle.std.specs.Str.{bytes_eq}
use Rattle.idl_lex.specs.kinds.Word.{is_word}
use Rattle.idl_lex.specs.kinds.WordTable.{value_of}
use Rattle.idl_lex.specs.tokens.Tokens.{Token}
use Rattle.idl_macro.specs.conditions.Arithmetic.{Value, checked, divided, is_zero, remaining, shifted_left, shifted_right, truth}
use Rattle.idl_macro.specs.conditions.Number.{integer}

-- the operators between two operands: each with its rank, and with its value at two numbers, the
-- bits of which are those of two's complement; one of a higher rank binds its operands first
abbrev pub operators : List (Token × (ℕ × (ℤ → ℤ → Value)))
operators =
    (codes "||", (1, λ a b. truth (not (is_zero a && is_zero b))))
    ∷ (codes "&&", (2, λ a b. truth (not (is_zero a) && not (is_zero b))))
    ∷ (codes "|", (3, λ a b. Some (int_bit_or w64 a b)))
    ∷ (codes "^", (4, λ a b. Some (int_bit_xor w64 a b)))
    ∷ (codes "&", (5, λ a b. Some (int_bit_and w64 a b)))
    ∷ (codes "==", (6, λ a b. truth (int_eq a b)))
    ∷ (codes "!=", (6, λ a b. truth (not (int_eq a b))))
    ∷ (codes "<", (7, λ a b. truth (int_lt a b)))
    ∷ (codes "<=", (7, λ a b. truth (not (int_lt b a))))
    ∷ (codes ">", (7, λ a b. truth (int_lt b a)))
    ∷ (codes ">=", (7, λ a b. truth (not (int_lt a b))))
    ∷ (codes "<<", (8, shifted_left)) ∷ (codes ">>", (8, shifted_right))
    ∷ (codes "+", (9, λ a b. checked (a +ℤ b))) ∷ (codes "-", (9, λ a b. checked (a -ℤ b)))
    ∷ (codes "*", (10, λ a b. checked (a *ℤ b)))
    ∷ (codes "/", (10, divided)) ∷ (codes "%", (10, remaining)) ∷ []

-- and those before one operand, with their values at it
abbrev pub signs : List (Token × (ℤ → Value))
signs =
    (codes "!", λ a. truth (is_zero a)) ∷ (codes "~", λ a. Some (int_bit_not w64 a))
    ∷ (codes "-", λ a. checked (neg_ℤ a)) ∷ (codes "+", λ a. Some a) ∷ []

-- what the left operand decides alone: the right one is not needed
abbrev pub decided : Token → ℤ → Value
decided t a =
    if bytes_eq t (codes "&&") then (if is_zero a then truth false else None)
    else (if bytes_eq t (codes "||") then (if is_zero a then None else truth true) else None)

-- an operator at two values: a faulty right one counts only where it is needed
abbrev pub applied : Token → (ℤ → ℤ → Value) → Value → Value → Value
applied t f None b = None
applied t f (Some a) None = decided t a
applied t f (Some a) (Some b) = f a b

-- The tokens are an expression with this value, or a faulty one, whose operators outside
-- parentheses are of this rank at least. The left operand of an operator may have operators of the
-- same rank, and the right one has higher ones alone. A word, a keyword too, is 0.
pub data Means : ℕ → List Token → Value → Type 0 where
  Number : (r n : ℕ) (t : Token) → is_word t ≡ false → integer t ≡ Some n
      → Means r (t ∷ []) (checked (pos n))
  Word : (r : ℕ) (t : Token) → is_word t ≡ true → Means r (t ∷ []) (Some (pos 0))
  Parenthesized : (r : ℕ) (ts : List Token) (v : Value) → Means 1 ts v
      → Means r (codes "(" ∷ (ts ++ codes ")" ∷ [])) v
  Prefixed : (r : ℕ) (t : Token) (f : ℤ → Value) (ts : List Token) (v : Value)
      → value_of signs t ≡ Some f → Means 11 ts v
      → Means r (t ∷ ts) (elim v [ None ↦ None | Some a ↦ f a ])
  Infixed : (r s : ℕ) (t : Token) (f : ℤ → ℤ → Value) (ls rs : List Token) (a b : Value)
      → value_of operators t ≡ Some (s, f) → r ≤ s → Means s ls a → Means (suc s) rs b
      → Means r (ls ++ t ∷ rs) (applied t f a b)
