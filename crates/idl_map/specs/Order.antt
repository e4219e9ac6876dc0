-- The order of lists by their last items, and then by those before them.
use Rattle.std.specs.Prelude.{◌≡◌, Bool, false, true, ◌&&◌, List, [], ◌∷◌, ◌++◌, refl, reverse}
use Rattle.std.proofs.Common.{ap, sym, ◌∙◌}
use Rattle.std.proofs.lemmas.Cmp.{lists_total, on_total}
use Rattle.std.proofs.lemmas.List.{reverse-append}
use Rattle.std.specs.Cmp.{IsTotalOrder}
use Rattle.std.specs.Cmp.Lexicographic.{lists_ties, pointwise, slice_cmp}
use Rattle.std.specs.Ordering.{eq_by_cmp}
use Rattle.std.specs.declared.cmp.Ordering.{Ordering}

-- which of two lists comes first
abbrev pub backwards_cmp : {X : Type 0} → (X → X → Ordering) → List X → List X → Ordering
backwards_cmp R xs ys = slice_cmp R (reverse xs) (reverse ys)

pub backwards_total : {X : Type 0} {R : X → X → Ordering} → IsTotalOrder R
    → IsTotalOrder (backwards_cmp R)
backwards_total total = on_total reverse (lists_total total)

both_fail : (a b : Bool) → (a && false) ≡ (b && false)
both_fail true true = refl
both_fail true false = refl
both_fail false true = refl
both_fail false false = refl

swapped : (a b c : Bool) → (a && (b && c)) ≡ (b && (a && c))
swapped true true c = refl
swapped true false c = refl
swapped false true c = refl
swapped false false c = refl

module _ {X : Type 0} (eq : X → X → Bool) where
  pub none_left : (ys : List X) (y : X) → pointwise eq [] (ys ++ y ∷ []) ≡ false
  none_left [] y = refl
  none_left (z ∷ ys) y = refl

  pub none_right : (xs : List X) (x : X) → pointwise eq (xs ++ x ∷ []) [] ≡ false
  none_right [] x = refl
  none_right (z ∷ xs) x = refl

  -- the last items are compared, and then those before them
  pub pointwise-last : (xs ys : List X) (x y : X)
      → pointwise eq (xs ++ x ∷ []) (ys ++ y ∷ []) ≡ (eq x y && pointwise eq xs ys)
  pointwise-last [] [] x y = refl
  pointwise-last [] (z ∷ ys) x y =
      ap (λ b. eq x z && b) (none_left ys y) ∙ both_fail (eq x z) (eq x y)
  pointwise-last (z ∷ xs) [] x y =
      ap (λ b. eq z y && b) (none_right xs x) ∙ both_fail (eq z y) (eq x y)
  pointwise-last (z ∷ xs) (w ∷ ys) x y =
      ap (λ b. eq z w && b) (pointwise-last xs ys x y)
      ∙ swapped (eq z w) (eq x y) (pointwise eq xs ys)

  -- lists are one where they are so from behind
  pointwise-reverse : (xs ys : List X)
      → pointwise eq xs ys ≡ pointwise eq (reverse xs) (reverse ys)
  pointwise-reverse [] [] = refl
  pointwise-reverse [] (y ∷ ys) =
      sym (ap (pointwise eq []) (reverse-append (y ∷ []) ys) ∙ none_left (reverse ys) y)
  pointwise-reverse (x ∷ xs) [] =
      sym (ap (λ zs. pointwise eq zs []) (reverse-append (x ∷ []) xs) ∙ none_right (reverse xs) x)
  pointwise-reverse (x ∷ xs) (y ∷ ys) =
      ap (λ b. eq x y && b) (pointwise-reverse xs ys)
      ∙ sym (pointwise-last (reverse xs) (reverse ys) x y)
      ∙ sym (λ i. pointwise eq (reverse-append (x ∷ []) xs i) (reverse-append (y ∷ []) ys i))

pub backwards_ties : {X : Type 0} {eq : X → X → Bool} (R : X → X → Ordering)
    → ((x y : X) → eq x y ≡ eq_by_cmp R x y)
    → (xs ys : List X) → pointwise eq xs ys ≡ eq_by_cmp (backwards_cmp R) xs ys
backwards_ties {X} {eq} R ties xs ys =
    pointwise-reverse eq xs ys ∙ lists_ties R ties (reverse xs) (reverse ys)
