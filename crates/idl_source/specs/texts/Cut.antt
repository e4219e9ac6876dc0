-- A loaded file's bytes, cut into lines.
use Rattle.std.specs.Prelude.{ℕ, Bool, false, List, [], ◌∷◌, ◌==◌, ◌&&◌, if◌then◌else◌}
use Rattle.idl_source.specs.texts.Line.{newline}

-- the byte that may stand before a newline
abbrev pub carriage_return : ℕ
carriage_return = 13

-- the bytes begin with a newline
abbrev pub is_at_newline : List ℕ → Bool
is_at_newline [] = false
is_at_newline (byte ∷ bytes) = byte == newline

-- the lines, the first with one more byte before it
abbrev pub begun_with : ℕ → List (List ℕ) → List (List ℕ)
begun_with byte [] = (byte ∷ []) ∷ []
begun_with byte (line ∷ lines) = (byte ∷ line) ∷ lines

-- a newline ends a line, a carriage return before a newline goes out, and bytes behind the last
-- newline are a line
abbrev pub cut_lines : List ℕ → List (List ℕ)
cut_lines [] = []
cut_lines (byte ∷ bytes) =
    if byte == newline then [] ∷ cut_lines bytes
    else if byte == carriage_return && is_at_newline bytes then cut_lines bytes
    else begun_with byte (cut_lines bytes)
