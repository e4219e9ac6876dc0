-- Signed numbers of 64 bits, as a condition has them: what these bits do not hold is a fault.
use Rattle.std.specs.Prelude.{zero, suc, ◌*◌, ◌/◌, ◌^◌, Bool, true, false, nat_lt, if◌then◌else◌, Option, None, Some, ℤ, pos, negsuc, int_div, int_rem}

-- a value, or nothing where there is a fault
abbrev pub Value : Type 0
Value = Option ℤ

-- whether a number lies from -2^63 to 2^63 - 1; `negsuc n` is -(n + 1)
abbrev pub fits : ℤ → Bool
fits (pos n) = nat_lt n (2 ^ 63)
fits (negsuc n) = nat_lt n (2 ^ 63)

-- the number, where it is no overflow
abbrev pub checked : ℤ → Value
checked z = if fits z then Some z else None

abbrev pub truth : Bool → Value
truth holds = Some (if holds then pos 1 else pos 0)

abbrev pub is_zero : ℤ → Bool
is_zero (pos zero) = true
is_zero (pos (suc n)) = false
is_zero (negsuc n) = false

-- cut towards zero
abbrev pub divided : ℤ → ℤ → Value
divided a b = if is_zero b then None else checked (int_div a b)

-- with the sign of a
abbrev pub remaining : ℤ → ℤ → Value
remaining a b = if is_zero b then None else Some (int_rem a b)

-- a count from 0 to 63, and no negative left side
abbrev pub shifted_left : ℤ → ℤ → Value
shifted_left (pos a) (pos count) = if nat_lt count 64 then checked (pos (a * 2 ^ count)) else None
shifted_left (pos a) (negsuc count) = None
shifted_left (negsuc a) count = None

abbrev pub shifted_right : ℤ → ℤ → Value
shifted_right (pos a) (pos count) = if nat_lt count 64 then Some (pos (a / 2 ^ count)) else None
shifted_right (pos a) (negsuc count) = None
shifted_right (negsuc a) count = None
