-- Lists that are put in order from their last items on.
use Rattle.std.proofs.Common.{◌≡◌, List, [], ◌∷◌, ◌++◌, ◌∙◌, ap, refl, sym}
use Rattle.std.proofs.lemmas.List.{reverse-append}
use Rattle.std.specs.Cmp.Lexicographic.{slice_cmp}
use Rattle.std.specs.Ordering.{ordering_then}
use Rattle.std.specs.declared.cmp.Ordering.{Ordering}
use Rattle.std.specs.declared.cmp.Ordering.TheVariants.{Less, Equal, Greater}
use Rattle.idl_map.specs.Order.{backwards_cmp}

decided : (o p : Ordering) → (o ≡ Equal → ⊥) → ordering_then o p ≡ o
decided Less p u = refl
decided Equal p u = absurd (u refl)
decided Greater p u = refl

module _ {X : Type 0} (R : X → X → Ordering) where
  -- the last items come first in the order, and then those before them
  backwards-last : (xs ys : List X) (x y : X)
      → backwards_cmp R (xs ++ x ∷ []) (ys ++ y ∷ []) ≡ ordering_then (R x y) (backwards_cmp R xs ys)
  backwards-last xs ys x y i = slice_cmp R (reverse-append xs (x ∷ []) i) (reverse-append ys (y ∷ []) i)

  -- where they tie, those before them decide
  pub tied_last : (xs ys : List X) (x y : X) → R x y ≡ Equal
      → backwards_cmp R (xs ++ x ∷ []) (ys ++ y ∷ []) ≡ backwards_cmp R xs ys
  tied_last xs ys x y h = backwards-last xs ys x y ∙ ap (λ o. ordering_then o (backwards_cmp R xs ys)) h

  -- and where they don't, they decide
  pub other_last : (xs ys : List X) (x y : X) (o : Ordering) → o ≡ R x y → (o ≡ Equal → ⊥)
      → backwards_cmp R (xs ++ x ∷ []) (ys ++ y ∷ []) ≡ o
  other_last xs ys x y o h u =
      backwards-last xs ys x y ∙ ap (λ p. ordering_then p (backwards_cmp R xs ys)) (sym h) ∙ decided o (backwards_cmp R xs ys) u

  pub longer : (xs : List X) (x : X) → backwards_cmp R (xs ++ x ∷ []) [] ≡ Greater
  longer xs x i = slice_cmp R (reverse-append xs (x ∷ []) i) []

  pub shorter : (ys : List X) (y : X) → backwards_cmp R [] (ys ++ y ∷ []) ≡ Less
  shorter ys y i = slice_cmp R [] (reverse-append ys (y ∷ []) i)
