-- Lines of the joined text, as they are made of the lines of a file.
use Rattle.std.specs.Prelude.{ℕ, suc, ◌+◌, List, [], ◌∷◌, ◌++◌, get_or, map, if◌then◌else◌}
use Rattle.idl_lex.specs.bytes.Text.{Placed, numbered, is_continued, front}

-- bytes, the first of them on the lines with these numbers, and all further ones on the last line
abbrev pub placed : List ℕ → ℕ → List ℕ → List Placed
placed numbers last [] = []
placed [] last (b ∷ bytes) = record { byte = b; line = last } ∷ placed [] last bytes
placed (n ∷ numbers) last (b ∷ bytes) = record { byte = b; line = n } ∷ placed numbers last bytes

-- the number of a byte's line
abbrev pub line_at : List Placed → ℕ → ℕ
line_at text i = get_or (map (λ p. p.line) text) i 0

-- how many lines are one line of the joined text, with the first of them
abbrev pub joined_count : List (List ℕ) → ℕ
joined_count [] = 0
joined_count (bytes ∷ lines) = if is_continued bytes then suc (joined_count lines) else 1

-- these lines as one, each but the last without its last byte
abbrev pub continued : ℕ → List (List ℕ) → List Placed
continued number [] = []
continued number (bytes ∷ []) = numbered number bytes
continued number (bytes ∷ next ∷ lines) =
    numbered number (front bytes) ++ continued (number + 1) (next ∷ lines)
