-- How far the bytes of a file are read.
use Rattle.std.specs.Prelude.{◌≡◌, ◌≤◌, ◌<◌, ◌++◌, ◌∷◌, ◌⊎◌, [], ℕ, List, drop, length, take, if◌then◌else◌}
use Rattle.std.specs.List.{All}
use Rattle.std.specs.Io.{StartsWith}
use Rattle.std.specs.Str.{bytes_eq}
use Rattle.idl_source.specs.texts.Cut.{cut_lines}
use Rattle.idl_source.specs.Limits.{longest_line, most_lines}

-- a file may have these lines: they are not too many, and none is too long
abbrev pub AreAllowed : List (List ℕ) → Type 0
AreAllowed lines = (length lines ≤ most_lines) × All (λ line. length line ≤ longest_line) lines

-- whatever comes behind these bytes, no file may have their lines
abbrev pub ArePastLimits : List ℕ → Type 0
ArePastLimits bytes = (rest : List ℕ) → AreAllowed (cut_lines (bytes ++ rest)) → ⊥

-- the bytes up to the first place where they are past the limits; all of them where there is none
pub record AreUpToLimits (all bytes : List ℕ) : Type 0 where
  pub begin : StartsWith all bytes
  pub end : (bytes ≡ all) ⊎ ArePastLimits bytes
  pub first : (n : ℕ) → n < length bytes → ArePastLimits (take n bytes) → ⊥

-- U+FEFF in UTF-8, which some editors put at the front of a file
abbrev pub byte_order_mark : List ℕ
byte_order_mark = 0xEF ∷ 0xBB ∷ 0xBF ∷ []

abbrev pub without_mark : List ℕ → List ℕ
without_mark bytes = if bytes_eq (take 3 bytes) byte_order_mark then drop 3 bytes else bytes

-- what is read of a file of these bytes: all of them but a byte order mark at the front; or where they
-- are past the limits, with that, the bytes up to there
abbrev pub IsTextOf : List ℕ → List ℕ → Type 0
IsTextOf all text = (AreUpToLimits all all × (text ≡ without_mark all))
    ⊎ (AreUpToLimits all text × ArePastLimits text)
