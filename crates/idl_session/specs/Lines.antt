-- The lines of a text, and lines of bounded length.
use Rattle.std.specs.Prelude.{ℕ, List, [], ◌∷◌, nat_le, nat_eq, length, Option, None, Some, if◌then◌else◌}
use Rattle.std.specs.List.{onto_first}

-- the lines of a text; a last one without newline counts if it has a byte
abbrev pub lines_of : List ℕ → List (List ℕ)
lines_of [] = []
lines_of (b ∷ bytes) = if nat_eq b 10 then [] ∷ lines_of bytes else onto_first b (lines_of bytes)

-- a byte before the first line, if there is one
abbrev pub onto_next : ℕ → List (List ℕ) → List (List ℕ)
onto_next b [] = []
onto_next b (line ∷ lines) = (b ∷ line) ∷ lines

-- the whole lines of a text: those that a newline ends
abbrev pub whole_lines : List ℕ → List (List ℕ)
whole_lines [] = []
whole_lines (b ∷ bytes) =
    if nat_eq b 10 then [] ∷ whole_lines bytes else onto_next b (whole_lines bytes)

-- a line of at most n bytes
abbrev pub line_within : ℕ → List ℕ → Option (List ℕ)
line_within n line = if nat_le (length line) n then Some line else None
