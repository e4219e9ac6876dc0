-- The lines that a command announces, as they are gathered.
use Rattle.std.specs.Prelude.{◌≡◌, ℕ, ◌<◌, Bool, true, ◌||◌, List, [], ◌∷◌, ◌++◌, nat_lt, length}
use Rattle.std.specs.List.{list_any}
use Rattle.idl_source.specs.Limits.{longest_line, most_lines}
use Rattle.idl_session.specs.declared.announced.Announced.{Announced}
use Rattle.idl_session.specs.declared.announced.Announced.TheVariants as announced
use Rattle.idl_session.specs.Streams.{Stream, IsTakenBy, TakesLines}

-- these lines, of so many that are announced, go past a limit
abbrev pub are_over : ℕ → List (List ℕ) → Bool
are_over count lines =
    nat_lt most_lines count || list_any (λ line. nat_lt longest_line (length line)) lines

-- what is gathered after these lines
abbrev pub IsGathered : ℕ → List (List ℕ) → Announced → Type 0
IsGathered count lines (announced.Whole whole) = whole ≡ lines
IsGathered count lines announced.Unfinished = ⊥
IsGathered count lines announced.OverLimit = are_over count lines ≡ true
IsGathered count lines announced.NoMemory = Unit {0}

-- one line more was taken, and is gathered
pub record Gathers (old new : Stream) (before after : Announced) : Type 0 where
  pub line : List ℕ
  pub taken : TakesLines old new (line ∷ [])
  pub gathered : (count : ℕ) (lines : List (List ℕ))
      → IsGathered count lines before → IsGathered count (lines ++ line ∷ []) after

-- so many of the announced lines were taken
pub record IsGathering (count taken_count : ℕ) (old new : Stream) (announced : Announced)
    : Type 0 where
  pub lines : List (List ℕ)
  pub taken : TakesLines old new lines
  pub many : length lines ≡ taken_count
  pub is : IsGathered count lines announced

-- what is gathered of so many lines, as far as they are there
abbrev pub IsAnnounced : ℕ → List (List ℕ) → Announced → Type 0
IsAnnounced count lines (announced.Whole whole) = (whole ≡ lines) × (length lines ≡ count)
IsAnnounced count lines announced.Unfinished = length lines < count
IsAnnounced count lines announced.OverLimit = (are_over count lines ≡ true) × (length lines ≡ count)
IsAnnounced count lines announced.NoMemory = length lines ≡ count

pub record TakesAnnounced (count : ℕ) (old new : Stream) (announced : Announced) : Type 0 where
  pub lines : List (List ℕ)
  pub taken : TakesLines old new lines
  pub enough : IsTakenBy count lines new
  pub is : IsAnnounced count lines announced
