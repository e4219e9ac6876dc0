-- The joined text with each byte where it stands, and the gaps between its tokens.
use Rattle.std.specs.Prelude.{ℕ, zero, suc, ◌+◌, Bool, true, false, ◌&&◌, List, [], ◌∷◌, ◌++◌, drop, map, nat_eq, if◌then◌else◌}
use Rattle.idl_source.specs.texts.Line.{newline}
use Rattle.idl_lex.specs.bytes.Byte.{is_space}
use Rattle.idl_lex.specs.bytes.Context.{closes}
use Rattle.idl_lex.specs.bytes.Scan.{taken}
use Rattle.idl_lex.specs.bytes.Text.{Placed, front, is_continued}
use Rattle.idl_lex.specs.declared.bytes.state.Inside.TheVariants.{Slash}
use Rattle.idl_lex.specs.declared.bytes.text_left.LineLeft.{LineLeft}
use Rattle.idl_lex.specs.declared.bytes.text_left.TextByte.{TextByte}

-- the bytes alone
abbrev pub bytes_in : List TextByte → List ℕ
bytes_in text = map (λ b. b.byte) text

-- a text without columns
abbrev pub placed_text : List TextByte → List Placed
placed_text text = map (λ b. record { byte = b.byte; line = b.line }) text

-- bytes of the line with this number, of which so many are before them
unfoldable pub standing : ℕ → ℕ → List ℕ → List TextByte
standing number column [] = []
standing number column (b ∷ bytes) =
    record { byte = b; line = number; column = column } ∷ standing number (column + 1) bytes

-- a newline, where one ends a line
abbrev pub ending : Bool → List ℕ
ending true = newline ∷ []
ending false = []

-- a backslash that ends a line joins it to these, if there are any
abbrev pub is_joined : List ℕ → List (List ℕ) → Bool
is_joined bytes [] = false
is_joined bytes (next ∷ lines) = is_continued bytes

-- what a line before these has of the joined text
abbrev pub text_of_line : List ℕ → List (List ℕ) → List ℕ
text_of_line bytes lines = if is_joined bytes lines then front bytes else bytes ++ newline ∷ []

-- what is left of a line's bytes in the text
abbrev pub bytes_left : LineLeft → List TextByte
bytes_left left = standing left.number left.column (drop left.column (left.bytes.now ++ ending left.ends))

-- the joined text of the lines from this number on
unfoldable pub text_from : ℕ → List (List ℕ) → List TextByte
text_from number [] = []
text_from number (bytes ∷ lines) =
    standing number 0 (text_of_line bytes lines) ++ text_from (number + 1) lines

-- how many bytes a text begins with that are a white byte, or a comment that is closed; 0 where it
-- begins with a token
abbrev pub gap_length : List ℕ → ℕ
gap_length [] = 0
gap_length (b ∷ rest) =
    if is_space b then 1
    else (if nat_eq b 47 && closes rest then suc (taken Slash rest) else 0)

-- what comes after the first n bytes and the gaps behind them
unfoldable pub gaps_after : ℕ → List TextByte → List TextByte
gaps_after n [] = []
gaps_after (suc n) (b ∷ text) = gaps_after n text
gaps_after zero (b ∷ text) =
    elim (gap_length (bytes_in (b ∷ text))) [ zero ↦ b ∷ text | suc n ↦ gaps_after n text ]

-- what comes after the gaps with which a text begins
abbrev pub behind_gaps : List TextByte → List TextByte
behind_gaps text = gaps_after 0 text
