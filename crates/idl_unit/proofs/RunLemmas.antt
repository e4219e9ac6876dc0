-- The items of a part of a list.
use Rattle.std.proofs.Common.{◌≡◌, ◌∙◌, ℕ, zero, suc, ◌+◌, ◌-◌, ◌<◌, ◌≤◌, List, [], ◌∷◌, None, drop, take, slice_get, slice_range, refl, ap, arith}

take-get : {X : Type 0} (n : ℕ) (xs : List X) (i : ℕ) → i < n → slice_get (take n xs) i ≡ slice_get xs i
take-get zero xs i lt = absurd (omega (arith, lt))
take-get (suc n) [] i lt = refl
take-get (suc n) (x ∷ xs) zero lt = refl
take-get (suc n) (x ∷ xs) (suc i) lt = take-get n xs i (omega (arith, lt))

take-past : {X : Type 0} (n : ℕ) (xs : List X) (i : ℕ) → n ≤ i → slice_get (take n xs) i ≡ None
take-past zero xs i le = refl
take-past (suc n) [] i le = refl
take-past (suc n) (x ∷ xs) zero le = absurd (omega (arith, le))
take-past (suc n) (x ∷ xs) (suc i) le = take-past n xs i (omega (arith, le))

drop-get : {X : Type 0} (n : ℕ) (xs : List X) (i : ℕ) → slice_get (drop n xs) i ≡ slice_get xs (n + i)
drop-get zero xs i = let same : i ≡ 0 + i = omega arith in ap (slice_get xs) same
drop-get (suc n) [] i = refl
drop-get (suc n) (x ∷ xs) i = let same : suc (n + i) ≡ suc n + i = omega arith in drop-get n xs i ∙ ap (slice_get (x ∷ xs)) same

-- what stands at a number of a part, and past it
pub slice_range-get : {X : Type 0} (xs : List X) (from to i : ℕ) → i < to - from → slice_get (slice_range xs from to) i ≡ slice_get xs (from + i)
slice_range-get xs from to i lt = take-get (to - from) (drop from xs) i lt ∙ drop-get from xs i

pub slice_range-past : {X : Type 0} (xs : List X) (from to i : ℕ) → to - from ≤ i → slice_get (slice_range xs from to) i ≡ None
slice_range-past xs from to i le = take-past (to - from) (drop from xs) i le
