-- Reading from left to right, with the place of the first fault.
use Rattle.std.specs.Prelude.{ℕ, List, [], ◌∷◌, length, Option, Some, None, Result, Ok, Err, Bool, zero, suc, drop, if◌then◌else◌}
use Rattle.idl_tree.specs.Lexeme.{Lexeme}

-- What is read and what is left, or how many tokens are left at the fault.
abbrev pub Reader : Type 0 → Type 0
Reader A = List Lexeme → Result (A × List Lexeme) ℕ

infixl 10 ◌>>=◌
abbrev pub ◌>>=◌ : {A B : Type 0} → Result A ℕ → (A → Result B ℕ) → Result B ℕ
(Ok x) >>= f = f x
(Err e) >>= f = Err e

abbrev pub first : List Lexeme → Option Lexeme
first [] = None
first (t ∷ ts) = Some t

-- the tokens after one that passes the test
abbrev pub expect : (Option Lexeme → Bool) → List Lexeme → Result (List Lexeme) ℕ
expect p ts = if p (first ts) then Ok (drop 1 ts) else Err (length ts)

-- items, each of which begins with a token that passes the test
abbrev pub many_at : {A : Type 0} → (Option Lexeme → Bool) → Reader A → ℕ → Reader (List A)
many_at p item zero ts = Err (length ts)
many_at p item (suc k) ts =
    if p (first ts) then (item ts >>= λ x. many_at p item k x.1 >>= λ y. Ok (x.0 ∷ y.0, y.1))
    else Ok ([], ts)

abbrev pub many_of : {A : Type 0} → (Option Lexeme → Bool) → Reader A → Reader (List A)
many_of p item ts = many_at p item (suc (length ts)) ts
