-- Roots that are left of others, one after another.
use Rattle.std.proofs.Common.{◌≡◌, ◌∙◌, ◌⊎◌, ◌+◌, ◌<◌, ◌++◌, ◌∷◌, [], ℕ, List, ap, get_or, inl, inr, length, refl, subst, sym, take}
use Rattle.std.proofs.lemmas.List.{take_more}
use Rattle.idl_driver.specs.Left.{AreAllBut, IsParted}

left-one : (roots : List (List ℕ)) (fewer : ℕ) (left : List (List ℕ)) (root : List ℕ) → AreAllBut roots fewer left → AreAllBut (roots ++ root ∷ []) fewer (left ++ root ∷ [])
left-one [] fewer left root are = inl ([], ap (λ (l : List (List ℕ)). l ++ root ∷ []) are.0, (refl, are.1))
left-one (r ∷ roots) fewer left root (inl (rest, is, are)) = inl (rest ++ root ∷ [], ap (λ (l : List (List ℕ)). l ++ root ∷ []) is, left-one roots fewer rest root are)
left-one (r ∷ roots) fewer left root (inr (others, is, are)) = inr (others, is, left-one roots others left root are)

left-but : (roots : List (List ℕ)) (fewer : ℕ) (left : List (List ℕ)) (root : List ℕ) → AreAllBut roots fewer left → AreAllBut (roots ++ root ∷ []) (fewer + 1) left
left-but [] fewer left root are = inr (fewer, refl, are)
left-but (r ∷ roots) fewer left root (inl (rest, is, are)) = inl (rest, is, left-but roots fewer rest root are)
left-but (r ∷ roots) fewer left root (inr (others, is, are)) = inr (others + 1, ap (λ n. n + 1) is, left-but roots others left root are)

-- a root more
pub left-next : (roots : List (List ℕ)) (i : ℕ) (root : List ℕ) (left left_then : List (List ℕ)) (fewer fewer_then : ℕ) → i < length roots → root ≡ get_or roots i root
    → AreAllBut (take i roots) fewer left → IsParted root left left_then fewer fewer_then → AreAllBut (take (i + 1) roots) fewer_then left_then
left-next roots i root left left_then fewer fewer_then within is are parted =
    subst (λ (rs : List (List ℕ)). AreAllBut rs fewer_then left_then)
    (sym (take_more roots i root within ∙ ap (λ (r : List ℕ). take i roots ++ r ∷ []) (sym is))) (by parted)
  where
    by : IsParted root left left_then fewer fewer_then → AreAllBut (take i roots ++ root ∷ []) fewer_then left_then
    by (inl (more, same)) =
        subst (λ (l : List (List ℕ)). AreAllBut (take i roots ++ root ∷ []) fewer_then l) (sym more)
        (subst (λ n. AreAllBut (take i roots ++ root ∷ []) n (left ++ root ∷ [])) (sym same) (left-one (take i roots) fewer left root are))
    by (inr (same, more)) =
        subst (λ (l : List (List ℕ)). AreAllBut (take i roots ++ root ∷ []) fewer_then l) (sym same)
        (subst (λ n. AreAllBut (take i roots ++ root ∷ []) n left) (sym more) (left-but (take i roots) fewer left root are))
