-- What stands in a character or string literal, and what the literal counts as.
use Rattle.std.specs.Prelude.{ℕ, zero, suc, ◌+◌, Bool, true, false, not, ◌&&◌, List, [], ◌∷◌, take, nat_eq, nat_le, Option, None, Some, if◌then◌else◌}
use Rattle.std.specs.List.{list_all, prefix_len}
use Rattle.std.specs.Option.{option_map}
use Rattle.idl_lex.specs.bytes.Byte.{is_quote, is_digit_of}
use Rattle.idl_lex.specs.kinds.Number.{number, are_digits}
use Rattle.idl_lex.specs.declared.kinds.kind.TokenKind.{TokenKind}
use Rattle.idl_lex.specs.declared.kinds.kind.TokenKind.TheVariants.{Character, WideCharacter, String, WideString, Bad}
use Rattle.idl_lex.specs.declared.kinds.kind.Defect.TheVariants.{UnclosedLiteral, NotOneCharacter, BadEscape}

-- how many bytes stand before the first closing quote outside an escape
unfoldable pub closing : ℕ → Bool → List ℕ → Option ℕ
closing quote escaped [] = None
closing quote escaped (b ∷ rest) =
    if escaped then option_map (λ n. suc n) (closing quote false rest)
    else (if nat_eq b quote then Some 0
    else option_map (λ n. suc n) (closing quote (nat_eq b 92) rest))

-- the bytes between a literal's quotes, of those after the opening one, if it is closed
abbrev pub body_of : ℕ → List ℕ → Option (List ℕ)
body_of quote rest = option_map (λ n. take n rest) (closing quote false rest)

-- what a letter or a sign after a backslash stands for
abbrev pub simple_escape : ℕ → Option ℕ
simple_escape b =
    if nat_eq b 110 then Some 10
    else (if nat_eq b 116 then Some 9 else (if nat_eq b 118 then Some 11
    else (if nat_eq b 98 then Some 8
    else (if nat_eq b 114 then Some 13 else (if nat_eq b 102 then Some 12
    else (if nat_eq b 97 then Some 7
    else (if nat_eq b 92 then Some 92 else (if nat_eq b 63 then Some 63
    else (if nat_eq b 39 then Some 39 else (if nat_eq b 34 then Some 34 else None))))))))))

-- how many digits to a base stand here, up to a limit
abbrev pub digits_len : ℕ → ℕ → List ℕ → ℕ
digits_len base most bytes = prefix_len (is_digit_of base) (take most bytes)

-- the character of a number that is at most this
abbrev pub numbered_character : ℕ → ℕ → List ℕ → Option ℕ
numbered_character base most digits =
    if are_digits base digits
    then (if nat_le (number base digits) most then Some (number base digits) else None) else None

-- a character, or none for a bad escape; and how many bytes it takes
abbrev pub Read : Type 0
Read = Option ℕ × ℕ

-- an escape by its number, of a few digits to a base, at most this
abbrev pub by_number : ℕ → ℕ → ℕ → List ℕ → Read
by_number base digits most bytes = (
  numbered_character base most
      (take (digits_len base digits bytes) bytes),
  digits_len base digits bytes,
)

-- what was read behind a letter, with that letter
abbrev pub after_letter : Read → Read
after_letter read = (read.0, 1 + read.1)

-- what stands after a backslash: `u` and one to four hexadecimal digits in wide literals alone
abbrev pub escape : Bool → List ℕ → Read
escape wide [] = (None, 0)
escape wide (b ∷ rest) =
    if is_digit_of 8 b then by_number 8 3 255 (b ∷ rest)
    else (if nat_eq b 120 then after_letter (by_number 16 2 255 rest)
    else (if wide && nat_eq b 117 then after_letter (by_number 16 4 65535 rest)
    else (simple_escape b, 1)))

-- the characters of a literal's bytes after the first n of them; none stands for a bad escape
abbrev pub characters_after : Bool → ℕ → List ℕ → List (Option ℕ)
characters_after wide n [] = []
characters_after wide (suc n) (b ∷ rest) = characters_after wide n rest
characters_after wide zero (b ∷ rest) =
    if nat_eq b 92 then (escape wide rest).0 ∷ characters_after wide (escape wide rest).1 rest
    else Some b ∷ characters_after wide zero rest

-- the characters of the bytes between the quotes
unfoldable pub characters : Bool → List ℕ → List (Option ℕ)
characters wide body = characters_after wide zero body

-- neither a bad escape nor the zero character
abbrev pub is_text_character : Option ℕ → Bool
is_text_character None = false
is_text_character (Some c) = not (nat_eq c 0)

-- a character literal of one character
abbrev pub one_kind : Bool → Option ℕ → TokenKind
one_kind wide None = Bad BadEscape
one_kind wide (Some c) = if wide then WideCharacter else Character

-- a character literal
abbrev pub character_kind : Bool → List (Option ℕ) → TokenKind
character_kind wide [] = Bad NotOneCharacter
character_kind wide (c ∷ []) = one_kind wide c
character_kind wide (c ∷ d ∷ cs) = Bad NotOneCharacter

-- a string literal
abbrev pub string_kind : Bool → List (Option ℕ) → TokenKind
string_kind wide cs =
    if list_all is_text_character cs then (if wide then WideString else String) else Bad BadEscape

-- a literal with these bytes between its quotes, if it is closed
abbrev pub closed_kind : Bool → ℕ → Option (List ℕ) → TokenKind
closed_kind wide quote None = Bad UnclosedLiteral
closed_kind wide quote (Some body) =
    if nat_eq quote 39 then character_kind wide (characters wide body)
    else string_kind wide (characters wide body)

-- the kind of a literal that these bytes end, the ones after its opening quote
abbrev pub literal_kind : Bool → ℕ → List ℕ → TokenKind
literal_kind wide quote rest = closed_kind wide quote (body_of quote rest)

-- the characters, if none is a bad escape
abbrev pub all_good : List (Option ℕ) → Option (List ℕ)
all_good [] = Some []
all_good (None ∷ cs) = None
all_good (Some c ∷ cs) = option_map (λ values. c ∷ values) (all_good cs)

-- the value of a closed literal, if no escape in it is bad
abbrev pub closed_value : Bool → Option (List ℕ) → Option (List ℕ)
closed_value wide None = None
closed_value wide (Some body) = all_good (characters wide body)

-- the value of a literal that begins with its quote
abbrev pub quoted_value : Bool → List ℕ → Option (List ℕ)
quoted_value wide [] = None
quoted_value wide (quote ∷ rest) =
    if is_quote quote then closed_value wide (body_of quote rest) else None

-- the value of a literal by its spelling: the numbers of its characters
abbrev pub literal_value : List ℕ → Option (List ℕ)
literal_value [] = None
literal_value (b ∷ rest) =
    if nat_eq b 76 then quoted_value true rest else quoted_value false (b ∷ rest)
