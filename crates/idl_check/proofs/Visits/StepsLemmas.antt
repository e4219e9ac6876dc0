-- A sum of tokens, by whether a word holds it.
use Rattle.std.proofs.Common.{◌≡◌, ◌<◌, ◌^◌, ◌∙◌, ℕ, suc, Option, None, Some, arith, lt_of_not-le}
use Rattle.std.specs.Prelude.{IfNone, IfSome, SomeIff}

pub sum-some : (r : Option ℕ) (m n : ℕ) → SomeIff r (m < 2 ^ 64) m → m ≡ n → IfSome r (λ k. k ≡ n)
sum-some None m n h e = tt
sum-some (Some k) m n h e = h.1 ∙ e

pub sum-none : (r : Option ℕ) (m n : ℕ) → SomeIff r (m < 2 ^ 64) m → m ≡ n → IfNone r (18446744073709551615 < n)
sum-none None m n h e = let past = lt_of_not-le {n = suc m} {m = 2 ^ 64} h in omega (arith, past, e)
sum-none (Some k) m n h e = tt
