-- How a value is written: as one token of IDL that has this value.
use Rattle.std.specs.Prelude.{ℕ, ◌+◌, ◌/◌, ◌%◌, Bool, true, false, ◌&&◌, ◌||◌, List, [], ◌∷◌, ◌++◌, codes, flat_map, nat_eq, nat_le, if◌then◌else◌}
use Rattle.std.specs.Fmt.{signed_decimal}
use Rattle.idl_tree.specs.idl_lex.kinds.Kind.{is_like_keyword}
use Rattle.idl_value.specs.declared.value.Value.{Value}
use Rattle.idl_value.specs.declared.value.Value.TheVariants as value

abbrev pub truth_word : Bool → List ℕ
truth_word true = codes "TRUE"
truth_word false = codes "FALSE"

-- the last octal digit of a number
abbrev pub octal : ℕ → ℕ
octal n = 48 + n % 8

-- the last hexadecimal digit of a number, a letter in lower case
abbrev pub hexadecimal : ℕ → ℕ
hexadecimal n = if nat_le (n % 16) 9 then 48 + n % 16 else 87 + n % 16

-- a character by its number: `\` and three octal digits, or `\u` and four hexadecimal ones in a
-- wide literal
abbrev pub numbered : Bool → ℕ → List ℕ
numbered false c = 92 ∷ octal (c / 64) ∷ octal (c / 8) ∷ octal c ∷ []
numbered true c =
    92 ∷ 117 ∷ hexadecimal (c / 4096) ∷ hexadecimal (c / 256) ∷ hexadecimal (c / 16)
    ∷ hexadecimal c ∷ []

-- a character between such quotes: with `\` before it where it is the quote or `\`; as it stands
-- where it can be printed
abbrev pub character_text : Bool → ℕ → ℕ → List ℕ
character_text wide quote c =
    if nat_eq c quote || nat_eq c 92 then 92 ∷ c ∷ []
    else if nat_le 32 c && nat_le c 126 then c ∷ []
    else numbered wide c

-- characters between quotes
abbrev pub quoted : Bool → ℕ → List ℕ → List ℕ
quoted wide quote characters =
    quote ∷ (flat_map (character_text wide quote) characters ++ quote ∷ [])

-- a name, with `_` before it where it is a keyword but for the case of letters
abbrev pub escaped : List ℕ → List ℕ
escaped name = if is_like_keyword name then codes "_" ++ name else name

-- a path, from the global scope on: `::` before each name
abbrev pub path_word : List (List ℕ) → List ℕ
path_word [] = []
path_word (name ∷ scope) = path_word scope ++ (codes "::" ++ escaped name)

-- the path of the scope around
abbrev pub scope_of : List (List ℕ) → List (List ℕ)
scope_of [] = []
scope_of (name ∷ scope) = scope

-- a value; an enumerator by its path
abbrev pub value_word : Value → List ℕ
value_word (value.Integer z) = signed_decimal z
value_word (value.Boolean b) = truth_word b
value_word (value.Character c) = quoted false 39 (c ∷ [])
value_word (value.WideCharacter c) = codes "L" ++ quoted true 39 (c ∷ [])
value_word (value.Text text) = quoted false 34 text
value_word (value.WideText text) = codes "L" ++ quoted true 34 text
value_word (value.Enumerator enumeration name) = path_word (name ∷ scope_of enumeration)
