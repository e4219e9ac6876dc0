-- What a number counts as: an integer with its value, or a fault.
use Rattle.std.specs.Prelude.{ℕ, ◌+◌, ◌*◌, ◌^◌, Bool, true, false, ◌&&◌, ◌||◌, List, [], ◌∷◌, fold, nat_eq, nat_lt, Option, None, Some, if◌then◌else◌}
use Rattle.std.specs.List.{list_all, list_any}
use Rattle.idl_lex.specs.bytes.Byte.{is_x, is_e, is_d, digit_value, is_digit_of}
use Rattle.idl_lex.specs.declared.kinds.kind.TokenKind.{TokenKind}
use Rattle.idl_lex.specs.declared.kinds.kind.TokenKind.TheVariants.{Integer, Bad}
use Rattle.idl_lex.specs.declared.kinds.kind.Defect.TheVariants.{MalformedInteger, FloatingLiteral, IntegerTooLarge}

-- the number that these digits spell to a base, the first of them the highest
abbrev pub number : ℕ → List ℕ → ℕ
number base digits = fold (λ value b. value * base + digit_value b) 0 digits

-- it begins with `0x` or `0X`
abbrev pub is_hexadecimal : List ℕ → Bool
is_hexadecimal (b ∷ c ∷ digits) = nat_eq b 48 && is_x c
is_hexadecimal others = false

-- it holds a `.`, or, where it isn't hexadecimal, a letter of an exponent or of a fixed literal
abbrev pub is_floating : List ℕ → Bool
is_floating spelling =
    if list_any (λ b. nat_eq b 46) spelling then true
    else (if is_hexadecimal spelling then false else list_any (λ b. is_e b || is_d b) spelling)

-- what is no integer
abbrev pub no_integer : List ℕ → TokenKind
no_integer spelling = if is_floating spelling then Bad FloatingLiteral else Bad MalformedInteger

-- one or more digits to a base
abbrev pub are_digits : ℕ → List ℕ → Bool
are_digits base [] = false
are_digits base (b ∷ digits) = list_all (is_digit_of base) (b ∷ digits)

-- the base to which a number is written, and its digits
abbrev pub based_after : List ℕ → List ℕ → ℕ × List ℕ
based_after [] spelling = (8, spelling)
based_after (b ∷ digits) spelling = if is_x b then (16, digits) else (8, spelling)

abbrev pub based : List ℕ → ℕ × List ℕ
based [] = (10, [])
based (b ∷ rest) = if nat_eq b 48 then based_after rest (b ∷ rest) else (10, b ∷ rest)

-- an integer is below 2^64
abbrev pub limited : ℕ → Option ℕ
limited value = if nat_lt value (2 ^ 64) then Some value else None

-- the value of these digits to a base, if they are an integer
abbrev pub digits_value : ℕ → List ℕ → Option ℕ
digits_value base digits = if are_digits base digits then limited (number base digits) else None

-- the value of an integer
abbrev pub integer_value : List ℕ → Option ℕ
integer_value spelling = digits_value (based spelling).0 (based spelling).1

-- the kind of digits with this value
abbrev pub kind_of_value : Option ℕ → TokenKind
kind_of_value (Some value) = Integer
kind_of_value None = Bad IntegerTooLarge

-- these digits of a number to a base
abbrev pub digits_kind : ℕ → List ℕ → List ℕ → TokenKind
digits_kind base digits spelling =
    if are_digits base digits then kind_of_value (limited (number base digits))
    else no_integer spelling

-- the kind of a number
abbrev pub number_kind : List ℕ → TokenKind
number_kind spelling = digits_kind (based spelling).0 (based spelling).1 spelling
