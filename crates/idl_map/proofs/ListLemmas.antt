-- Lists that are compared from their last items on.
use Rattle.std.proofs.Common.{◌≡◌, Bool, true, false, List, [], ◌∷◌, ◌++◌, ◌∙◌, ap}
use Rattle.std.specs.Prelude.{◌&&◌}
use Rattle.std.specs.Cmp.Lexicographic.{pointwise}
use Rattle.idl_map.specs.Order.{none_left, none_right, pointwise-last}

module _ {X : Type 0} (eq : X → X → Bool) where
  -- lists whose last items are one are so where those before them are
  pub same_last : (xs ys : List X) (x y : X) → eq x y ≡ true → pointwise eq (xs ++ x ∷ []) (ys ++ y ∷ []) ≡ pointwise eq xs ys
  same_last xs ys x y h = pointwise-last eq xs ys x y ∙ ap (λ b. b && pointwise eq xs ys) h

  -- and lists whose last items differ are not
  pub other_last : (xs ys : List X) (x y : X) → eq x y ≡ false → pointwise eq (xs ++ x ∷ []) (ys ++ y ∷ []) ≡ false
  other_last xs ys x y h = pointwise-last eq xs ys x y ∙ ap (λ b. b && pointwise eq xs ys) h

  pub longer : (xs : List X) (x : X) → pointwise eq (xs ++ x ∷ []) [] ≡ false
  longer = none_right eq

  pub shorter : (ys : List X) (y : X) → pointwise eq [] (ys ++ y ∷ []) ≡ false
  shorter = none_left eq
