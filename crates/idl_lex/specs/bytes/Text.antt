-- The text of a file: its lines, each ended by a newline, and each byte with the number of its
-- line.
use Rattle.std.specs.Prelude.{ℕ, ◌+◌, ◌-◌, List, [], ◌∷◌, ◌++◌, Bool, get_or, length, map, nat_eq, take, if◌then◌else◌}
use Rattle.idl_source.specs.texts.Line.{newline}

-- a byte of a text, and the number of its line
pub record Placed : Type 0 where
  pub byte : ℕ
  pub line : ℕ

abbrev pub bytes_of : List Placed → List ℕ
bytes_of text = map (λ p. p.byte) text

-- bytes of the line with this number
abbrev pub numbered : ℕ → List ℕ → List Placed
numbered number bytes = map (λ b. record { byte = b; line = number }) bytes

-- the last byte is a backslash
abbrev pub is_continued : List ℕ → Bool
is_continued bytes = nat_eq (get_or bytes (length bytes - 1) 0) 92

-- all bytes but the last
abbrev pub front : List ℕ → List ℕ
front bytes = take (length bytes - 1) bytes

-- The joined text of the lines from this number on: a backslash that ends a line is taken out with
-- the newline after it, but one that ends the last line stays.
unfoldable pub joined : ℕ → List (List ℕ) → List Placed
joined number [] = []
joined number (bytes ∷ []) = numbered number (bytes ++ newline ∷ [])
joined number (bytes ∷ next ∷ lines) =
    if is_continued bytes then numbered number (front bytes) ++ joined (number + 1) (next ∷ lines)
    else numbered number (bytes ++ newline ∷ []) ++ joined (number + 1) (next ∷ lines)
