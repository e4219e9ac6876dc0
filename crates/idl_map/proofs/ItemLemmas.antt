-- Items of lists at their places.
use Rattle.std.proofs.Common.{◌≡◌, ◌≢◌, ◌<◌, ℕ, zero, suc, List, [], ◌∷◌, Some, length, slice_get, refl, ap, arith}
use Rattle.std.proofs.Math.ListN.{set}

module _ {A : Type 0} where
  -- the item at a place, in a list of which one is set
  pub slice_get-set_same : (xs : List A) (i : ℕ) (y : A) → i < length xs → slice_get (set xs i y) i ≡ Some y
  slice_get-set_same [] i y h = absurd (omega arith)
  slice_get-set_same (x ∷ xs) zero y h = refl
  slice_get-set_same (x ∷ xs) (suc i) y h = slice_get-set_same xs i y (omega arith)

  pub slice_get-set_other : (xs : List A) (i j : ℕ) (y : A) → j ≢ i → slice_get (set xs i y) j ≡ slice_get xs j
  slice_get-set_other [] i j y other = refl
  slice_get-set_other (x ∷ xs) zero zero y other = absurd (other refl)
  slice_get-set_other (x ∷ xs) zero (suc j) y other = refl
  slice_get-set_other (x ∷ xs) (suc i) zero y other = refl
  slice_get-set_other (x ∷ xs) (suc i) (suc j) y other = slice_get-set_other xs i j y (λ h. other (ap suc h))
