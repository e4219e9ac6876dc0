-- When two integer types are one.
use Rattle.std.specs.Prelude.{◌≡◌, ◌==◌, ℕ, Bool, true, if◌then◌else◌, nat_eq, refl}
use Rattle.std.proofs.Common.{ap, sym, ◌∙◌}
use Rattle.idl_base.specs.Exact.{same_number}
use Rattle.idl_value.specs.declared.integer.IntegerKind.{IntegerKind}
use Rattle.idl_value.specs.declared.integer.IntegerKind.TheVariants.{Octet, Int8, Uint8, Short, UnsignedShort, Long, UnsignedLong, LongLong, UnsignedLongLong}

-- a number for each integer type
abbrev pub integer_number : IntegerKind → ℕ
integer_number Octet = 0
integer_number Int8 = 1
integer_number Uint8 = 2
integer_number Short = 3
integer_number UnsignedShort = 4
integer_number Long = 5
integer_number UnsignedLong = 6
integer_number LongLong = 7
integer_number UnsignedLongLong = 8

-- the one with a number
abbrev pub integer_at : ℕ → IntegerKind
integer_at n =
    if n == 0 then Octet
    else if n == 1 then Int8
    else if n == 2 then Uint8
    else if n == 3 then Short
    else if n == 4 then UnsignedShort
    else if n == 5 then Long
    else if n == 6 then UnsignedLong
    else if n == 7 then LongLong
    else UnsignedLongLong

integer_at-number : (x : IntegerKind) → integer_at (integer_number x) ≡ x
integer_at-number Octet = refl
integer_at-number Int8 = refl
integer_at-number Uint8 = refl
integer_at-number Short = refl
integer_at-number UnsignedShort = refl
integer_at-number Long = refl
integer_at-number UnsignedLong = refl
integer_at-number LongLong = refl
integer_at-number UnsignedLongLong = refl

-- whether two are one
abbrev pub integer_eq : IntegerKind → IntegerKind → Bool
integer_eq x y = nat_eq (integer_number x) (integer_number y)

pub same_integer_kind : (x y : IntegerKind) → integer_eq x y ≡ true → x ≡ y
same_integer_kind x y h =
    sym (integer_at-number x)
    ∙ ap integer_at (same_number (integer_number x) (integer_number y) h)
    ∙ integer_at-number y
