-- How much of a file bytes are. These are words for the code's own steps.
use Rattle.std.specs.Prelude.{◌≡◌, ◌≢◌, ◌≤◌, ◌++◌, ◌∷◌, ◌==◌, ◌||◌, [], ℕ, Bool, false, List, length, nat_lt, if◌then◌else◌}
use Rattle.std.specs.List.{All}
use Rattle.idl_source.specs.texts.Cut.{carriage_return, cut_lines}
use Rattle.idl_source.specs.Limits.{longest_line}
use Rattle.idl_source.specs.texts.Line.{newline}
use Rattle.idl_disk.specs.declared.reading.Extent.{Extent}

-- whether the last byte is a carriage return
abbrev pub ends_in_return : List ℕ → Bool
ends_in_return [] = false
ends_in_return (b ∷ []) = b == carriage_return
ends_in_return (b ∷ c ∷ bs) = ends_in_return (c ∷ bs)

-- the bytes of a line, without a carriage return at the end
abbrev pub without_return : List ℕ → List ℕ
without_return [] = []
without_return (b ∷ []) = if b == carriage_return then [] else b ∷ []
without_return (b ∷ c ∷ bs) = b ∷ without_return (c ∷ bs)

-- The bytes are those of lines that ended, none of them too long, and behind these the bytes of a
-- line that didn't end.
pub record Measures (bytes : List ℕ) (extent : Extent) : Type 0 where
  pub ended : List ℕ
  pub last : List ℕ
  pub whole : bytes ≡ ended ++ last
  pub cut : (rest : List ℕ) → cut_lines (ended ++ rest) ≡ cut_lines ended ++ cut_lines rest
  pub lines : length (cut_lines ended) ≡ extent.lines
  pub short : All (λ line. length line ≤ longest_line) (cut_lines ended)
  pub is_line : All (λ b. b ≢ newline) last
  pub line : length (without_return last) ≡ extent.bytes
  pub return : ends_in_return last ≡ extent.has_return

-- whether there is a line that didn't end
abbrev pub has_begun : Extent → Bool
has_begun e = nat_lt 0 e.bytes || e.has_return
