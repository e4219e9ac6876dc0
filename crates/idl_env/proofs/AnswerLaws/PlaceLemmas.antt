-- The items of a list by their places.
use Rattle.std.proofs.Common.{◌≡◌, ℕ, zero, suc, ◌+◌, ◌-◌, ◌<◌, List, [], ◌∷◌, Some, None, length, take, drop, get_or, refl, sym, ap, ◌∙◌, arith, add-one, length-drop}
use Rattle.std.specs.Prelude.{slice_get}
use Rattle.std.proofs.Math.Seq.{drop-cons}
use Rattle.std.proofs.lemmas.List.{take_all}
use Rattle.std.proofs.lemmas.Option.{same_Some}

module _ {A : Type 0} where
  -- the rest from a place on, where an item stands there
  pub drop-at : (xs : List A) (i : ℕ) (x : A) → slice_get xs i ≡ Some x → drop i xs ≡ x ∷ drop (suc i) xs
  drop-at [] i x h = cc
  drop-at (y ∷ ys) zero x h = ap (λ z. z ∷ ys) (same_Some y x h)
  drop-at (y ∷ ys) (suc i) x h = drop-at ys i x h

  pub drop-at1 : (xs : List A) (i : ℕ) (x : A) → slice_get xs i ≡ Some x → drop i xs ≡ x ∷ drop (i + 1) xs
  drop-at1 xs i x h = rw add-one (drop-at xs i x h)

  -- the same where none stands there
  drop-past : (xs : List A) (i : ℕ) → slice_get xs i ≡ None → drop i xs ≡ drop (suc i) xs
  drop-past [] zero h = refl
  drop-past [] (suc i) h = refl
  drop-past (y ∷ ys) zero h = cc
  drop-past (y ∷ ys) (suc i) h = drop-past ys i h

  pub drop-past1 : (xs : List A) (i : ℕ) → slice_get xs i ≡ None → drop i xs ≡ drop (i + 1) xs
  drop-past1 xs i h = rw add-one (drop-past xs i h)

  -- the rest of a list from one of its items on
  pub from_here : (xs : List A) (i : ℕ) (x : A) → i < length xs → x ≡ get_or xs i x → drop i xs ≡ x ∷ drop (i + 1) xs
  from_here xs i x h e = rw add-one (drop-cons xs i x h ∙ ap (λ y. y ∷ drop (suc i) xs) (sym e))

  -- all behind the first
  pub behind_first : (xs : List A) → take (length xs - 1) (drop 1 xs) ≡ drop 1 xs
  behind_first xs = take_all (length xs - 1) (drop 1 xs) (simp length-drop (omega arith))
