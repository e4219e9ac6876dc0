-- Classes of bytes.
use Rattle.std.specs.Prelude.{ℕ, ◌-◌, Bool, ◌&&◌, ◌||◌, nat_le, nat_lt, nat_eq, if◌then◌else◌}

-- blank, horizontal tab, newline, vertical tab, form feed, carriage return
abbrev pub is_space : ℕ → Bool
is_space b = nat_eq b 32 || (nat_le 9 b && nat_le b 13)

abbrev pub is_letter : ℕ → Bool
is_letter b = (nat_le 65 b && nat_le b 90) || (nat_le 97 b && nat_le b 122)

abbrev pub is_digit : ℕ → Bool
is_digit b = nat_le 48 b && nat_le b 57

-- a letter or `_`
abbrev pub is_word_start : ℕ → Bool
is_word_start b = is_letter b || nat_eq b 95

-- a letter, `_` or a digit
abbrev pub is_word_byte : ℕ → Bool
is_word_byte b = is_word_start b || is_digit b

-- `'` and `"`
abbrev pub is_quote : ℕ → Bool
is_quote b = nat_eq b 39 || nat_eq b 34

-- `x` and `X`, which make a number hexadecimal
abbrev pub is_x : ℕ → Bool
is_x b = nat_eq b 120 || nat_eq b 88

-- `e` and `E`, which begin an exponent
abbrev pub is_e : ℕ → Bool
is_e b = nat_eq b 101 || nat_eq b 69

-- `d` and `D`, which end a fixed literal
abbrev pub is_d : ℕ → Bool
is_d b = nat_eq b 100 || nat_eq b 68

-- `+` and `-`
abbrev pub is_sign : ℕ → Bool
is_sign b = nat_eq b 43 || nat_eq b 45

-- what a digit counts, a letter from 10 on; 36 where the byte is none
abbrev pub digit_value : ℕ → ℕ
digit_value b =
    if is_digit b then b - 48
    else (if nat_le 97 b && nat_le b 122 then b - 87
    else (if nat_le 65 b && nat_le b 90 then b - 55 else 36))

-- a digit to this base, which is 36 at most
abbrev pub is_digit_of : ℕ → ℕ → Bool
is_digit_of base b = nat_lt (digit_value b) base
