-- The integers of a condition (C 2011, 6.4.4.1): integers of IDL, behind which any letters of
-- suffixes may stand.
use Rattle.std.specs.Prelude.{ℕ, Bool, not, ◌||◌, List, take, drop, nat_eq, if◌then◌else◌, Option, None}
use Rattle.std.specs.List.{prefix_len, list_all}
use Rattle.idl_lex.specs.kinds.Number.{integer_value}

-- `u`, `U`, `l` or `L`
abbrev pub is_suffix : ℕ → Bool
is_suffix b = nat_eq b 117 || nat_eq b 85 || nat_eq b 108 || nat_eq b 76

-- how many bytes stand before the first letter of a suffix
abbrev pub number_len : List ℕ → ℕ
number_len spelling = prefix_len (λ b. not (is_suffix b)) spelling

-- the value of an integer
abbrev pub integer : List ℕ → Option ℕ
integer spelling =
    if list_all is_suffix (drop (number_len spelling) spelling)
    then integer_value (take (number_len spelling) spelling)
    else None
