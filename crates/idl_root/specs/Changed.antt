-- Marks by which digests that are not among some are told at once.
use Rattle.std.specs.Prelude.{◌≡◌, ℕ, ◌/◌, ◌^◌, Bool, true, List, All, Contains, slice_index_or}

-- the place of the mark of a digest
abbrev pub mark_of : ℕ → ℕ
mark_of digest = digest / 2 ^ 54

-- each of these digests has its mark, if there is a place for it
abbrev pub AreMarked : List Bool → List ℕ → Type 0
AreMarked marks digests = All (λ d. slice_index_or marks (mark_of d) true ≡ true) digests

-- no number is among both
abbrev pub ShareNone : List ℕ → List ℕ → Type 0
ShareNone numbers others = (n : ℕ) → Contains numbers n → Contains others n → ⊥
