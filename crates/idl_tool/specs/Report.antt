-- The report of a finding: where it is and what it says, its line, and marks below its token.
use Rattle.std.specs.Prelude.{ℕ, ◌+◌, ◌/◌, ◌%◌, Bool, true, false, ◌&&◌, ◌||◌, not, List, [], ◌∷◌, ◌++◌, codes, decimal, drop, length, max, min, nat_eq, nat_le, nat_lt, slice_range, take, Option, None, Some, unwrap_or, if◌then◌else◌}
use Rattle.std.specs.Char.{is_control}
use Rattle.std.specs.List.{flat_map, list_any}
use Rattle.bstr.specs.Utf8.{Decoded, decoded, pieces}
use Rattle.idl_explain.specs.Explained.{ended, said}
use Rattle.idl_explain.specs.declared.explanation.Words.{Words}
use Rattle.idl_fault.specs.Code.{code_text, is_error}
use Rattle.idl_fault.specs.declared.code.Code.{Code}
use Rattle.idl_fault.specs.declared.place.Place.{Place}
use Rattle.idl_related.specs.Reasons.{reason_words}
use Rattle.idl_related.specs.declared.second.Related.{Related}
use Rattle.idl_finding.specs.declared.finding.Finding.{Finding}

-- a hexadecimal digit
abbrev pub hex_digit : ℕ → ℕ
hex_digit n = if nat_lt n 10 then 48 + n else 87 + n

-- a byte by its number
abbrev pub numbered : ℕ → List ℕ
numbered b = codes "\\x" ++ hex_digit (b / 16) ∷ hex_digit (b % 16) ∷ []

-- in a line a tab stays, and what else is white is a blank
abbrev pub line_byte : ℕ → List ℕ
line_byte b =
    if nat_eq b 9 then 9 ∷ [] else (if nat_le 11 b && nat_le b 13 then 32 ∷ [] else numbered b)

abbrev pub other_byte : Bool → ℕ → List ℕ
other_byte is_line b = if is_line then line_byte b else numbered b

-- the marks of the direction of text: the characters that have Unicode's property Bidi_Control
abbrev pub bidi_controls : List ℕ
bidi_controls =
    0x061C ∷ 0x200E ∷ 0x200F ∷ 0x202A ∷ 0x202B ∷ 0x202C ∷ 0x202D ∷ 0x202E
    ∷ 0x2066 ∷ 0x2067 ∷ 0x2068 ∷ 0x2069 ∷ []

-- a character goes out as it is, unless it is a control or such a mark
abbrev pub is_shown : Option ℕ → Bool
is_shown None = false
is_shown (Some c) = not (is_control c || list_any (λ mark. nat_eq mark c) bidi_controls)

-- a piece of a text, a character or bytes that are none: it goes out as it is, if it is shown
unfoldable pub shown_piece : Bool → Option ℕ → List ℕ → List ℕ
shown_piece is_line char bytes =
    if is_shown char then bytes else flat_map (other_byte is_line) bytes

-- the first piece of a text
abbrev pub shown_first : Bool → List ℕ → List ℕ
shown_first is_line text =
    shown_piece is_line (decoded text).char (take (decoded text).size text)

abbrev pub shown_pieces : Bool → List Decoded → List ℕ → List ℕ
shown_pieces is_line [] text = []
shown_pieces is_line (piece ∷ pieces) text =
    shown_piece is_line piece.char (take piece.size text)
    ++ shown_pieces is_line pieces (drop piece.size text)

-- a text as a terminal can show it
abbrev pub shown_text : Bool → List ℕ → List ℕ
shown_text is_line text = shown_pieces is_line (pieces text) text

abbrev pub shown_line : List ℕ → List ℕ
shown_line line = shown_text true line

abbrev pub shown_token : List ℕ → List ℕ
shown_token token = shown_text false token

-- a byte that goes on with a character
abbrev pub goes_on : ℕ → Bool
goes_on b = nat_le 128 b && nat_le b 191

-- what is as wide as a character that is shown, and shows nothing
abbrev pub gap_below : ℕ → List ℕ
gap_below b = if goes_on b then [] else (if nat_eq b 9 then 9 ∷ [] else 32 ∷ [])

-- a mark below a character
abbrev pub mark_below : ℕ → List ℕ
mark_below b = if goes_on b then [] else 94 ∷ []

-- what is marked of a line: so many bytes from a column on, or the character that begins there, if
-- that has more
abbrev pub marked : List ℕ → ℕ → ℕ → List ℕ
marked line column size =
    let text = slice_range line (min column (length line)) (length line) in
    take (max size (decoded text).size) text

-- below a line: a gap up to this column, and then a mark below each character that is marked
abbrev pub marks : List ℕ → ℕ → ℕ → List ℕ
marks line column size =
    flat_map gap_below (shown_line (take column line))
    ++ flat_map mark_below (shown_line (marked line column size))

-- a line, and marks below a token of which the column is known
abbrev pub excerpt : List ℕ → Option ℕ → List ℕ → List ℕ
excerpt line None token = ended (shown_line line)
excerpt line (Some column) token =
    ended (shown_line line) ++ ended (marks line column (length token))

-- the excerpt of a line, if there is one
abbrev pub excerpt_of : Option (List ℕ) → Option ℕ → List ℕ → List ℕ
excerpt_of None column token = []
excerpt_of (Some line) column token = excerpt line column token

-- a column, where it is known: people count from 1
abbrev pub column_text : Option ℕ → List ℕ
column_text None = []
column_text (Some column) = codes ":" ++ decimal (column + 1)

-- the number of a line; 0 is none
abbrev pub line_text : ℕ → List ℕ
line_text line = if nat_eq line 0 then [] else codes ":" ++ decimal line

-- `FILE:LINE:COLUMN`, `FILE:LINE`, or `FILE` alone
abbrev pub place_text : Place → Option ℕ → List ℕ
place_text place column = place.file ++ line_text place.line ++ column_text column

abbrev pub severity : Code → List ℕ
severity code = if is_error code then codes "error" else codes "warning"

-- what a row shows behind its code
abbrev pub token_in : Finding → List ℕ
token_in finding = unwrap_or finding.text []

-- `FILE:LINE:COLUMN: error: `
abbrev pub beginning : Finding → Option ℕ → List ℕ
beginning finding column =
    place_text finding.place column ++ codes ": " ++ severity finding.code ++ codes ": "

-- `WORDS [CODE]`, and the line's end
abbrev pub saying : Finding → Words → List ℕ
saying finding words =
    said words (shown_token (token_in finding))
    ++ codes " [" ++ code_text finding.code ++ ended (codes "]")

-- `FILE:LINE:COLUMN: error: WORDS [CODE]`
abbrev pub heading : Finding → Option ℕ → Words → List ℕ
heading finding column words = beginning finding column ++ saying finding words

-- what is told of a finding in a line of this text, at this column, with these words
abbrev pub report : Option (List ℕ) → Option ℕ → Finding → Words → List ℕ
report line column finding words =
    heading finding column words ++ excerpt_of line column (token_in finding)

-- `, and N more`, where so many more were found than are told
abbrev pub more_text : ℕ → List ℕ
more_text more =
    if nat_eq more 0 then [] else codes ", and " ++ decimal more ++ codes " more"

-- `FILE:LINE:COLUMN: note: `
abbrev pub note_beginning : Place → Option ℕ → List ℕ
note_beginning place column = place_text place column ++ codes ": note: "

-- `near: TOKEN`, how many more there are, and the line's end
abbrev pub note_saying : Related → List ℕ
note_saying second =
    reason_words second.reason ++ codes ": " ++ shown_token second.text
    ++ ended (more_text second.more)

-- the line of a second place: `FILE:LINE:COLUMN: note: near: TOKEN`
abbrev pub second_line : Related → Option ℕ → List ℕ
second_line second column = note_beginning second.place column ++ note_saying second
