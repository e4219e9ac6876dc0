-- Sums over a list by a test of likeness: how many classes it adds to a known one.
use Rattle.std.specs.Prelude.{ℕ, ◌+◌, Bool, List, [], ◌∷◌, ◌++◌, IsTrue, All, if◌then◌else◌}
use Rattle.std.specs.List.{list_any}

-- nothing for what is known, and else one
abbrev pub new_if : {P : Type 0} → Bool → P → ℕ
new_if known here = if known then 0 else 1

module _ {P : Type 0} (alike : P → P → Bool) where
  -- a sum in which each counts by whether a known one, or one before it, is alike
  abbrev pub sum_among : (Bool → P → ℕ) → List P → List P → ℕ
  sum_among count known [] = 0
  sum_among count known (here ∷ more) =
      count (list_any (alike here) known) here + sum_among count (known ++ here ∷ []) more

  -- nothing where a known one is alike, and else one
  abbrev pub new_at : List P → P → ℕ
  new_at known here = new_if (list_any (alike here) known) here

  -- how many are alike to no known one and to none before them
  abbrev pub new_among : List P → List P → ℕ
  new_among known more = sum_among new_if known more

  -- those that are alike to no known one and to none before them
  abbrev pub new_ones : List P → List P → List P
  new_ones known [] = []
  new_ones known (here ∷ more) =
      (if list_any (alike here) known then [] else here ∷ [])
      ++ new_ones (known ++ here ∷ []) more

  -- each of these has one among those that is alike
  abbrev pub HaveAlike : List P → List P → Type 0
  HaveAlike these those = All (λ p. IsTrue (list_any (alike p) those)) these
