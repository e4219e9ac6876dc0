-- Tests of equal numbers, and lengths counted from a place.
use Rattle.std.proofs.Common.{◌≡◌, ◌≢◌, ◌∙◌, ℕ, suc, ◌+◌, inl, inr, nat_eq, true, false, Option, None, Some, refl, sym, ap, arith}
use Rattle.std.proofs.lemmas.Bool.Decides.{eqb_tells}
use Rattle.std.specs.Option.{option_map}

-- tests of equality
pub eq-true : (a b : ℕ) → a ≡ b → nat_eq a b ≡ true
eq-true a b e = elim (eqb_tells a b) [ inl h ↦ h.0 | inr h ↦ absurd (h.1 e) ]

pub eq-false : (a b : ℕ) → a ≢ b → nat_eq a b ≡ false
eq-false a b ne = elim (eqb_tells a b) [ inl h ↦ absurd (ne h.1) | inr h ↦ h.0 ]

pub eq-suc : (a b : ℕ) → nat_eq (suc a) (suc b) ≡ nat_eq a b
eq-suc a b = elim (eqb_tells a b) [
  | inl h ↦ let e = h.1 in eq-true (suc a) (suc b) (omega (arith, e)) ∙ sym h.0
  | inr h ↦ eq-false (suc a) (suc b) (λ e. h.1 (omega (arith, e))) ∙ sym h.0
]

-- a length counted from a place
pub counted-suc : (i : ℕ) (o : Option ℕ) → option_map (λ n. i + n) (option_map (λ n. suc n) o) ≡ option_map (λ n. i + 1 + n) o
counted-suc i None = refl
counted-suc i (Some n) = let e : i + suc n ≡ i + 1 + n = omega arith in ap (λ m. Some m) e
