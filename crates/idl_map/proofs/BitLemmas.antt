-- Tests of numbers, and marks.
use Rattle.std.proofs.Common.{◌≡◌, ◌<◌, ◌≤◌, ◌+◌, ◌-◌, ◌*◌, ◌%◌, ◌^◌, ◌⊎◌, ℕ, true, inl, inr, bit_or, ap, ◌∙◌, arith}
use Rattle.std.specs.Int.{bit_at}
use Rattle.std.proofs.Math.Dec.{eqb}
use Rattle.std.proofs.lemmas.Bool.Decides.{eqb_tells}
use Rattle.std.proofs.lemmas.Nat.Bits.{bit_at-lt, bit_at_cat_high, bit_at_or}

-- the test of equal numbers
pub eqb_same : (a b : ℕ) → a ≡ b → eqb a b ≡ true
eqb_same a b h = elim (eqb_tells a b) [ inl t ↦ t.0 | inr f ↦ absurd (f.1 h) ]

-- what is below the next number is below this one, or it
pub below_next : (s n : ℕ) → s < n + 1 → (s < n) ⊎ (s ≡ n)
below_next s n h = elim (eqb_tells s n) [ inl t ↦ inr t.1 | inr f ↦ (let low : s < n = omega (arith, h, f.1) in inl low) ]

-- a mark stays beside others, and sixteen more stand behind sixteen
pub set_first : (a b i : ℕ) → bit_at a i ≡ 1 → bit_at (bit_or a b) i ≡ 1
set_first a b i h = omega (arith, bit_at_or a b i, bit_at-lt b i, h)

pub set_behind : (a b i : ℕ) → b < 2 ^ 16 → 16 ≤ i → bit_at b (i - 16) ≡ 1 → bit_at (bit_or a (b * 2 ^ 16 % 2 ^ 64)) i ≡ 1
set_behind a b i small from h =
    let whole : b * 2 ^ 16 % 2 ^ 64 ≡ b * 2 ^ 16 + 0 = omega (arith, small) in
    let high : bit_at (b * 2 ^ 16 + 0) i ≡ bit_at b (i - 16) = bit_at_cat_high b 16 0 i (omega arith) from in
    let set : bit_at (b * 2 ^ 16 % 2 ^ 64) i ≡ 1 = ap (λ x. bit_at x i) whole ∙ high ∙ h in
    omega (arith, bit_at_or a (b * 2 ^ 16 % 2 ^ 64) i, bit_at-lt a i, set)
