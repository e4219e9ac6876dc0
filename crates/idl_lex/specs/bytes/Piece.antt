-- The pieces of a text: a newline, a white byte, a comment or a token. Each is told by its first
-- byte.
use Rattle.std.specs.Prelude.{ℕ, zero, suc, nat_eq, Bool, true, false, not, ◌&&◌, ◌||◌, List, [], ◌∷◌, length, take, if◌then◌else◌}
use Rattle.std.specs.List.{list_all}
use Rattle.idl_source.specs.texts.Line.{newline}
use Rattle.idl_lex.specs.bytes.Byte.{is_digit, is_word_start, is_word_byte, is_quote, is_x, is_e, is_sign}

abbrev pub is_empty : List ℕ → Bool
is_empty [] = true
is_empty (b ∷ bytes) = false

-- a number after its first byte: letters, digits, `_`, `.`, and a sign directly after `e`, unless
-- it is hexadecimal
abbrev pub number_rest : Bool → Bool → List ℕ → Bool
number_rest hexadecimal after_e [] = true
number_rest hexadecimal after_e (b ∷ rest) =
    (is_word_byte b || nat_eq b 46 || (after_e && is_sign b))
    && number_rest hexadecimal (is_e b && not hexadecimal) rest

-- a number after a first `0`
abbrev pub zero_rest : List ℕ → Bool
zero_rest [] = true
zero_rest (b ∷ rest) =
    if is_x b then number_rest true false rest else number_rest false false (b ∷ rest)

-- after a first `.`: a mark, or a number
abbrev pub dot_rest : List ℕ → Bool
dot_rest [] = true
dot_rest (b ∷ rest) = is_digit b && number_rest false false rest

-- a literal after its opening quote: on one line, to the first such quote outside an escape;
-- without it the literal is open
abbrev pub literal_rest : ℕ → Bool → List ℕ → Bool
literal_rest quote escaped [] = true
literal_rest quote escaped (b ∷ rest) =
    if nat_eq b newline then false
    else (if escaped then literal_rest quote false rest
    else (if nat_eq b quote then is_empty rest
    else literal_rest quote (nat_eq b 92) rest))

-- after a first `L`: a wide literal, or a word
abbrev pub wide_rest : List ℕ → Bool
wide_rest [] = true
wide_rest (b ∷ rest) =
    if is_quote b then literal_rest b false rest else list_all is_word_byte (b ∷ rest)

-- the rest of a line
abbrev pub line_rest : List ℕ → Bool
line_rest bytes = list_all (λ b. not (nat_eq b newline)) bytes

-- a comment after its `/*`: to the first `*/`; without it the comment is open
abbrev pub block_rest : Bool → List ℕ → Bool
block_rest after_star [] = true
block_rest after_star (b ∷ rest) =
    if after_star && nat_eq b 47 then is_empty rest else block_rest (nat_eq b 42) rest

-- after a first `/`: a mark, or a comment
abbrev pub slash_rest : List ℕ → Bool
slash_rest [] = true
slash_rest (b ∷ rest) =
    if nat_eq b 47 then line_rest rest else (if nat_eq b 42 then block_rest false rest else false)

-- the marks of two bytes
abbrev pub is_pair : ℕ → ℕ → Bool
is_pair a b =
    (nat_eq a b &&
    (nat_eq a 58 || nat_eq a 60 || nat_eq a 62 || nat_eq a 35 || nat_eq a 38 || nat_eq a 124
    || nat_eq a 61))
    || (nat_eq b 61 && (nat_eq a 33 || nat_eq a 60 || nat_eq a 62))

-- after any other byte: nothing, or what makes a mark of two bytes
abbrev pub mark_rest : ℕ → List ℕ → Bool
mark_rest a [] = true
mark_rest a (b ∷ rest) = is_pair a b && is_empty rest

-- these bytes are one piece, by the first of them
abbrev pub begins : ℕ → List ℕ → Bool
begins b rest =
    if is_word_start b then (if nat_eq b 76 then wide_rest rest else list_all is_word_byte rest)
    else (if nat_eq b 48 then zero_rest rest
    else (if is_digit b then number_rest false false rest
    else (if nat_eq b 46 then dot_rest rest
    else (if is_quote b then literal_rest b false rest
    else (if nat_eq b 47 then slash_rest rest
    else mark_rest b rest)))))

-- an included file's name after its `<`: on one line, to the first `>`
abbrev pub header_rest : List ℕ → Bool
header_rest [] = false
header_rest (b ∷ rest) =
    if nat_eq b newline then false else (if nat_eq b 62 then is_empty rest else header_rest rest)

-- these bytes are one piece; on a line that includes a file its name may be one
abbrev pub is_piece : Bool → List ℕ → Bool
is_piece includes [] = false
is_piece includes (b ∷ rest) = begins b rest || ((includes && nat_eq b 60) && header_rest rest)

-- the largest number up to a limit that passes, or 0
abbrev pub largest : (ℕ → Bool) → ℕ → ℕ
largest passes zero = 0
largest passes (suc n) = if passes (suc n) then suc n else largest passes n

-- how long the longest front is that passes
unfoldable pub longest : (List ℕ → Bool) → List ℕ → ℕ
longest passes bytes = largest (λ k. passes (take k bytes)) (length bytes)
