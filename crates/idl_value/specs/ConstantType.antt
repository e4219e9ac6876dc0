-- The types of which there are constants.
-- An integer type is its width and whether it has a sign. Its values, the range of its parts, how
-- many labels it can have and what `~` is follow from these two.
use Rattle.std.specs.Prelude.{ℕ, ℤ, pos, Bool, true, false, Option, None, Some}
use Rattle.idl_tree.specs.declared.declarations.data_type.DiscreteType.{DiscreteType}
use Rattle.idl_tree.specs.declared.declarations.data_type.DiscreteType.TheVariants as discrete
use Rattle.idl_tree.specs.declared.declarations.data_type.IntegerSize.{IntegerSize}
use Rattle.idl_tree.specs.declared.declarations.data_type.IntegerSize.TheVariants as size
use Rattle.idl_tree.specs.declared.declarations.data_type.SizedInteger.{SizedInteger}
use Rattle.idl_tree.specs.declared.declarations.data_type.SizedInteger.TheVariants as sized
use Rattle.idl_value.specs.integers.Integer.{power, width}
use Rattle.idl_value.specs.declared.integer.IntegerKind.{IntegerKind}
use Rattle.idl_value.specs.declared.integer.IntegerKind.TheVariants.{Octet, Int8, Uint8, Short, UnsignedShort, Long, UnsignedLong, LongLong, UnsignedLongLong}
use Rattle.idl_value.specs.declared.constant_type.ConstantType.{ConstantType}
use Rattle.idl_value.specs.declared.constant_type.ConstantType.TheVariants as target

-- the integer type of a size
abbrev pub integer_of : Bool → IntegerSize → IntegerKind
integer_of true size.Short = UnsignedShort
integer_of true size.Long = UnsignedLong
integer_of true size.LongLong = UnsignedLongLong
integer_of false size.Short = Short
integer_of false size.Long = Long
integer_of false size.LongLong = LongLong

-- the one whose width a word tells: those of 16 bits and more have two spellings
abbrev pub sized_kind : SizedInteger → IntegerKind
sized_kind sized.Int8 = Int8
sized_kind sized.Int16 = Short
sized_kind sized.Int32 = Long
sized_kind sized.Int64 = LongLong
sized_kind sized.Uint8 = Uint8
sized_kind sized.Uint16 = UnsignedShort
sized_kind sized.Uint32 = UnsignedLong
sized_kind sized.Uint64 = UnsignedLongLong

-- the type that keywords name
abbrev pub target_of : DiscreteType → ConstantType
target_of (discrete.Integer i) = target.Integer (integer_of i.is_unsigned i.size)
target_of (discrete.Sized s) = target.Integer (sized_kind s)
target_of discrete.Char = target.Character
target_of discrete.WideChar = target.WideCharacter
target_of discrete.Boolean = target.Boolean
target_of discrete.Octet = target.Integer Octet

-- a union may have a discriminator of the type: of every one but the strings, which have no end
abbrev pub discriminates : ConstantType → Bool
discriminates (target.Text bound) = false
discriminates (target.WideText bound) = false
discriminates other = true

-- how many values the type has, where its enum has so many enumerators
abbrev pub value_count : ConstantType → ℕ → Option ℤ
value_count (target.Integer kind) enumerators = Some (power (width kind))
value_count target.Boolean enumerators = Some (pos 2)
value_count target.Character enumerators = Some (pos 256)
value_count target.WideCharacter enumerators = Some (pos 65536)
value_count (target.Text bound) enumerators = None
value_count (target.WideText bound) enumerators = None
value_count (target.Enumeration path) enumerators = Some (pos enumerators)
