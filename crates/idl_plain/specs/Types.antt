-- The types that are spelled by keywords and that constants may have: a line for each.
use Rattle.std.specs.Prelude.{ℕ, Bool, true, false, List, [], ◌∷◌, None, Option, Some, codes, if◌then◌else◌}
use Rattle.std.specs.Option.{option_map, unwrap_or}
use Rattle.idl_entity.specs.DataType.{plain_type, with_layer}
use Rattle.idl_entity.specs.declared.data_type.DataType.{DataType}
use Rattle.idl_entity.specs.declared.data_type.Element.{Element}
use Rattle.idl_entity.specs.declared.data_type.Element.TheVariants.{Constants, Unvalued}
use Rattle.idl_entity.specs.declared.data_type.Layer.TheVariants.{Sequence}
use Rattle.idl_entity.specs.declared.unvalued.Unvalued.TheVariants as unvalued
use Rattle.idl_lex.specs.declared.kinds.keyword.Keyword.{Keyword}
use Rattle.idl_lex.specs.declared.kinds.keyword.Keyword.TheVariants as word
use Rattle.idl_parts.specs.declared.part.Shape.{Shape}
use Rattle.idl_parts.specs.declared.part.Shape.TheVariants as shape
use Rattle.idl_tree.specs.Lexeme.{Lexemes, Word}
use Rattle.idl_tree.specs.declared.declarations.data_type.BasicType.{BasicType}
use Rattle.idl_tree.specs.declared.declarations.data_type.BasicType.TheVariants as basic
use Rattle.idl_tree.specs.declared.declarations.data_type.DiscreteType.{DiscreteType}
use Rattle.idl_tree.specs.declared.declarations.data_type.DiscreteType.TheVariants as discrete
use Rattle.idl_tree.specs.declared.declarations.data_type.IntegerSize.{IntegerSize}
use Rattle.idl_tree.specs.declared.declarations.data_type.IntegerSize.TheVariants as size
use Rattle.idl_tree.specs.declared.declarations.data_type.SizedInteger.{SizedInteger}
use Rattle.idl_tree.specs.declared.declarations.data_type.SizedInteger.TheVariants as sized
use Rattle.idl_value.specs.declared.constant_type.ConstantType.{ConstantType}
use Rattle.idl_value.specs.declared.constant_type.ConstantType.TheVariants as target
use Rattle.idl_value.specs.declared.integer.IntegerKind.{IntegerKind}
use Rattle.idl_value.specs.declared.integer.IntegerKind.TheVariants as integer

-- the word of an integer type in a listing, how many bits it has, and whether it is signed
abbrev pub of_integers : IntegerKind → List ℕ × (ℕ × Bool)
of_integers integer.Octet = (codes "tk_octet", (8, false))
of_integers integer.Int8 = (codes "tk_int8", (8, true))
of_integers integer.Uint8 = (codes "tk_uint8", (8, false))
of_integers integer.Short = (codes "tk_short", (16, true))
of_integers integer.UnsignedShort = (codes "tk_ushort", (16, false))
of_integers integer.Long = (codes "tk_long", (32, true))
of_integers integer.UnsignedLong = (codes "tk_ulong", (32, false))
of_integers integer.LongLong = (codes "tk_longlong", (64, true))
of_integers integer.UnsignedLongLong = (codes "tk_ulonglong", (64, false))

-- how an integer type is spelled that is unsigned or not and has this size, and which it is
abbrev pub of_sizes : Bool → IntegerSize → Lexemes × IntegerKind
of_sizes true size.Short = (Word word.Unsigned ∷ Word word.Short ∷ [], integer.UnsignedShort)
of_sizes true size.Long = (Word word.Unsigned ∷ Word word.Long ∷ [], integer.UnsignedLong)
of_sizes true size.LongLong =
    (Word word.Unsigned ∷ Word word.Long ∷ Word word.Long ∷ [], integer.UnsignedLongLong)
of_sizes false size.Short = (Word word.Short ∷ [], integer.Short)
of_sizes false size.Long = (Word word.Long ∷ [], integer.Long)
of_sizes false size.LongLong = (Word word.Long ∷ Word word.Long ∷ [], integer.LongLong)

-- the same of one whose word has its size
abbrev pub of_words : SizedInteger → Keyword × IntegerKind
of_words sized.Int8 = (word.Int8, integer.Int8)
of_words sized.Int16 = (word.Int16, integer.Short)
of_words sized.Int32 = (word.Int32, integer.Long)
of_words sized.Int64 = (word.Int64, integer.LongLong)
of_words sized.Uint8 = (word.Uint8, integer.Uint8)
of_words sized.Uint16 = (word.Uint16, integer.UnsignedShort)
of_words sized.Uint32 = (word.Uint32, integer.UnsignedLong)
of_words sized.Uint64 = (word.Uint64, integer.UnsignedLongLong)

-- and of any that isn't a string or an enum
abbrev pub of_types : DiscreteType → Lexemes × ConstantType
of_types (discrete.Integer i) =
    let t = of_sizes i.is_unsigned i.size in (t.0, target.Integer t.1)
of_types (discrete.Sized s) = (Word (of_words s).0 ∷ [], target.Integer (of_words s).1)
of_types discrete.Char = (Word word.Char ∷ [], target.Character)
of_types discrete.WideChar = (Word word.Wchar ∷ [], target.WideCharacter)
of_types discrete.Boolean = (Word word.Boolean ∷ [], target.Boolean)
of_types discrete.Octet = (Word word.Octet ∷ [], target.Integer integer.Octet)

-- any type of keywords that isn't a string: how it is spelled, and what it is of
abbrev pub of_basics : BasicType → Lexemes × Element
of_basics (basic.Discrete d) = ((of_types d).0, Constants (of_types d).1)
of_basics basic.Float = (Word word.Float ∷ [], Unvalued unvalued.Float)
of_basics basic.Double = (Word word.Double ∷ [], Unvalued unvalued.Double)
of_basics basic.LongDouble = (Word word.Long ∷ Word word.Double ∷ [], Unvalued unvalued.LongDouble)
of_basics basic.Any = (Word word.Any ∷ [], Unvalued unvalued.Any)
of_basics basic.Object = (Word word.Object ∷ [], Unvalued unvalued.Object)

-- a type that is no name, where the last bound in it is this; a sequence is one of the type that
-- was written last
abbrev pub type_in : Shape → Option ℕ → Option DataType → Option DataType
type_in (shape.Basic b) bound before = Some (plain_type (of_basics b).1)
type_in (shape.Text is_wide is_bounded) bound before =
    let most = if is_bounded then bound else None in
    Some (plain_type (Constants (if is_wide then target.WideText most else target.Text most)))
type_in (shape.Sequence is_bounded) bound before =
    let most = if is_bounded then unwrap_or bound 0 else 0 in
    option_map (with_layer (Sequence most)) before
