-- The integer types, their ranges, and the range of every part of a value.
use Rattle.std.specs.Prelude.{ℕ, ◌-◌, ◌^◌, ℤ, pos, Bool, true, false, if◌then◌else◌, int_le, max, ◌&&◌, neg_ℤ}
use Rattle.idl_value.specs.declared.integer.IntegerKind.{IntegerKind}
use Rattle.idl_value.specs.declared.integer.IntegerKind.TheVariants.{Octet, Int8, Uint8, Short, UnsignedShort, Long, UnsignedLong, LongLong, UnsignedLongLong}

-- how many bits a value of the type has
abbrev pub width : IntegerKind → ℕ
width Octet = 8
width Int8 = 8
width Uint8 = 8
width Short = 16
width UnsignedShort = 16
width Long = 32
width UnsignedLong = 32
width LongLong = 64
width UnsignedLongLong = 64

abbrev pub is_signed : IntegerKind → Bool
is_signed Octet = false
is_signed Int8 = true
is_signed Uint8 = false
is_signed Short = true
is_signed UnsignedShort = false
is_signed Long = true
is_signed UnsignedLong = false
is_signed LongLong = true
is_signed UnsignedLongLong = false

abbrev pub power : ℕ → ℤ
power n = pos (2 ^ n)

-- The least and the greatest value of a type: where there are negative values, they are half of all.
abbrev pub least : IntegerKind → ℤ
least kind = if is_signed kind then neg_ℤ (power (width kind - 1)) else pos 0

abbrev pub greatest : IntegerKind → ℤ
greatest kind = pos (2 ^ (if is_signed kind then width kind - 1 else width kind) - 1)

-- The same for each part of a value of that type, which has 32 bits at least, with a sign or without.
abbrev pub part_width : IntegerKind → ℕ
part_width kind = max 32 (width kind)

abbrev pub lowest : IntegerKind → ℤ
lowest kind = neg_ℤ (power (part_width kind - 1))

abbrev pub highest : IntegerKind → ℤ
highest kind = pos (2 ^ part_width kind - 1)

abbrev pub is_within : ℤ → ℤ → ℤ → Bool
is_within low high value = int_le low value && int_le value high

-- a value of the type
abbrev pub holds : IntegerKind → ℤ → Bool
holds kind value = is_within (least kind) (greatest kind) value

-- a part of a value of the type
abbrev pub holds_part : IntegerKind → ℤ → Bool
holds_part kind value = is_within (lowest kind) (highest kind) value
