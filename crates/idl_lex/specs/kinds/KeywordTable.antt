-- How a keyword is found in the table of keywords: what its letters and its length make together
-- tells where it stands.
use Rattle.std.specs.Prelude.{ℕ, ◌+◌, ◌*◌, ◌-◌, ◌%◌, ◌||◌, nat_lt, List, [], ◌∷◌, get_or, length, Option, None, Some, if◌then◌else◌}
use Rattle.std.specs.Str.{bytes_eq}
use Rattle.idl_lex.specs.kinds.Keywords.{folded}
use Rattle.idl_lex.specs.declared.kinds.kind.TokenKind.{TokenKind}

-- which letter stands at a place of a word, from 1 on: a capital one and a small one are the same
abbrev pub letter : List ℕ → ℕ → ℕ
letter word i = get_or word i 0 % 32

-- what the first two letters of a word, its last but one and its length make together
abbrev pub mixed : List ℕ → ℕ
mixed word =
    (letter word 0 + 144 * letter word 1 + 153 * letter word (length word - 2) + length word) % 256

-- where each keyword stands, by what it makes; 255 for what no keyword makes
unfoldable pub places : List ℕ
places =
    37 ∷ 255 ∷ 255 ∷ 255 ∷ 255 ∷ 255 ∷ 255 ∷ 11 ∷ 255 ∷ 255 ∷ 67 ∷ 255 ∷ 255 ∷ 255 ∷ 255 ∷ 255 ∷ 255
    ∷ 35 ∷ 3 ∷ 255 ∷ 29 ∷ 255 ∷ 47 ∷ 27 ∷ 20 ∷ 19 ∷ 32 ∷ 255 ∷ 255 ∷ 255 ∷ 63 ∷ 255 ∷ 5 ∷ 24 ∷ 255
    ∷ 255 ∷ 52 ∷ 255 ∷ 255 ∷ 255 ∷ 57 ∷ 255 ∷ 255 ∷ 42 ∷ 71 ∷ 255 ∷ 255 ∷ 255 ∷ 255 ∷ 255 ∷ 255
    ∷ 255 ∷ 255 ∷ 43 ∷ 255 ∷ 41 ∷ 255 ∷ 255 ∷ 255 ∷ 255 ∷ 255 ∷ 255 ∷ 2 ∷ 68 ∷ 255 ∷ 23 ∷ 1 ∷ 255
    ∷ 255 ∷ 255 ∷ 255 ∷ 44 ∷ 255 ∷ 28 ∷ 255 ∷ 255 ∷ 25 ∷ 255 ∷ 13 ∷ 255 ∷ 255 ∷ 62 ∷ 255 ∷ 255 ∷ 60
    ∷ 255 ∷ 255 ∷ 255 ∷ 255 ∷ 255 ∷ 50 ∷ 255 ∷ 255 ∷ 255 ∷ 255 ∷ 17 ∷ 255 ∷ 255 ∷ 255 ∷ 255 ∷ 21
    ∷ 70 ∷ 255 ∷ 255 ∷ 255 ∷ 255 ∷ 255 ∷ 56 ∷ 255 ∷ 255 ∷ 255 ∷ 40 ∷ 255 ∷ 255 ∷ 255 ∷ 255 ∷ 255
    ∷ 255 ∷ 14 ∷ 255 ∷ 8 ∷ 255 ∷ 255 ∷ 26 ∷ 255 ∷ 255 ∷ 255 ∷ 255 ∷ 255 ∷ 255 ∷ 255 ∷ 255 ∷ 255 ∷ 16
    ∷ 61 ∷ 255 ∷ 255 ∷ 255 ∷ 255 ∷ 58 ∷ 255 ∷ 255 ∷ 39 ∷ 59 ∷ 255 ∷ 255 ∷ 255 ∷ 255 ∷ 255 ∷ 255
    ∷ 255 ∷ 255 ∷ 255 ∷ 255 ∷ 255 ∷ 255 ∷ 255 ∷ 255 ∷ 255 ∷ 255 ∷ 255 ∷ 255 ∷ 255 ∷ 255 ∷ 255 ∷ 46
    ∷ 12 ∷ 255 ∷ 255 ∷ 255 ∷ 255 ∷ 255 ∷ 255 ∷ 255 ∷ 255 ∷ 34 ∷ 255 ∷ 255 ∷ 255 ∷ 255 ∷ 255 ∷ 255
    ∷ 48 ∷ 51 ∷ 255 ∷ 255 ∷ 255 ∷ 255 ∷ 255 ∷ 31 ∷ 255 ∷ 255 ∷ 255 ∷ 38 ∷ 255 ∷ 255 ∷ 255 ∷ 55 ∷ 66
    ∷ 255 ∷ 255 ∷ 255 ∷ 36 ∷ 255 ∷ 255 ∷ 255 ∷ 255 ∷ 255 ∷ 10 ∷ 255 ∷ 9 ∷ 7 ∷ 54 ∷ 255 ∷ 255 ∷ 255
    ∷ 255 ∷ 255 ∷ 6 ∷ 255 ∷ 255 ∷ 22 ∷ 33 ∷ 53 ∷ 255 ∷ 30 ∷ 255 ∷ 255 ∷ 255 ∷ 255 ∷ 45 ∷ 255 ∷ 255
    ∷ 49 ∷ 255 ∷ 69 ∷ 255 ∷ 255 ∷ 255 ∷ 255 ∷ 255 ∷ 64 ∷ 4 ∷ 255 ∷ 0 ∷ 255 ∷ 18 ∷ 255 ∷ 255 ∷ 255
    ∷ 65 ∷ 255 ∷ 255 ∷ 255 ∷ 15 ∷ 255 ∷ []

-- where the keyword stands that a word can be, whatever its case; 255 where it can be none, as a
-- word of one byte or of more than 11
abbrev pub place : List ℕ → ℕ
place word =
    if nat_lt (length word) 2 || nat_lt 11 (length word) then 255 else get_or places (mixed word) 0

-- a keyword, if it is the word but for the case of letters
abbrev pub if_alike : List ℕ → Option (List ℕ × TokenKind) → Option (List ℕ × TokenKind)
if_alike word None = None
if_alike word (Some keyword) =
    if bytes_eq (folded keyword.0) (folded word) then Some keyword else None
