-- Roots that are left of others.
use Rattle.std.specs.Prelude.{◌≡◌, ◌⊎◌, ◌+◌, ◌++◌, ◌∷◌, [], ℕ, List}

-- these are the roots, in order, but for so many
abbrev pub AreAllBut : List (List ℕ) → ℕ → List (List ℕ) → Type 0
AreAllBut [] fewer left = (left ≡ []) × (fewer ≡ 0)
AreAllBut (root ∷ roots) fewer left =
    ((rest : List (List ℕ)) × (left ≡ root ∷ rest) × AreAllBut roots fewer rest)
    ⊎ ((others : ℕ) × (fewer ≡ others + 1) × AreAllBut roots others left)

-- a root is left, too, or one root more isn't
abbrev pub IsParted : List ℕ → List (List ℕ) → List (List ℕ) → ℕ → ℕ → Type 0
IsParted root left left_then fewer fewer_then =
    ((left_then ≡ left ++ root ∷ []) × (fewer_then ≡ fewer))
    ⊎ ((left_then ≡ left) × (fewer_then ≡ fewer + 1))
