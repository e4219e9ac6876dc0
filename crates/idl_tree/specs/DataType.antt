-- Types and declared names.
use Rattle.std.specs.Prelude.{Bool, true, false, [], ◌∷◌, ◌++◌, flat_map, Option, None, Some}
use Rattle.idl_lex.specs.declared.kinds.keyword.Keyword.{Keyword}
use Rattle.idl_lex.specs.declared.kinds.keyword.Keyword.TheVariants as word
use Rattle.idl_lex.specs.declared.kinds.mark.Mark.TheVariants as mark
use Rattle.idl_tree.specs.Expression.{spell_expression}
use Rattle.idl_tree.specs.Lexeme.{Lexemes, Word, Punctuation, Identifier}
use Rattle.idl_tree.specs.Name.{spell_name}
use Rattle.idl_tree.specs.declared.declarations.data_type.BasicType.{BasicType}
use Rattle.idl_tree.specs.declared.declarations.data_type.BasicType.TheVariants as basic
use Rattle.idl_tree.specs.declared.declarations.data_type.TypeTree.{TypeTree, fold-TypeTree}
use Rattle.idl_tree.specs.declared.declarations.data_type.TypeTree.TheOpen.{TypeTree-F, Sequence-F}
use Rattle.idl_tree.specs.declared.declarations.data_type.DiscreteType.{DiscreteType}
use Rattle.idl_tree.specs.declared.declarations.data_type.DiscreteType.TheVariants as discrete
use Rattle.idl_tree.specs.declared.declarations.data_type.IntegerSize.{IntegerSize}
use Rattle.idl_tree.specs.declared.declarations.data_type.IntegerSize.TheVariants.{Short, Long, LongLong}
use Rattle.idl_tree.specs.declared.declarations.data_type.PlainType.{PlainType}
use Rattle.idl_tree.specs.declared.declarations.data_type.PlainType.TheVariants as plain
use Rattle.idl_tree.specs.declared.declarations.data_type.SizedInteger.{SizedInteger}
use Rattle.idl_tree.specs.declared.declarations.data_type.SizedInteger.TheVariants as sized
use Rattle.idl_tree.specs.declared.declarations.data_type.StringType.{StringType}
use Rattle.idl_tree.specs.declared.declarations.declarator.Declarator.{Declarator}
use Rattle.idl_tree.specs.declared.expression.Expression.{Expression}

abbrev pub spell_sign : Bool → Lexemes
spell_sign true = Word word.Unsigned ∷ []
spell_sign false = []

abbrev pub spell_size : IntegerSize → Lexemes
spell_size Short = Word word.Short ∷ []
spell_size Long = Word word.Long ∷ []
spell_size LongLong = Word word.Long ∷ Word word.Long ∷ []

-- sized = "int8" | "int16" | "int32" | "int64" | "uint8" | "uint16" | "uint32" | "uint64"
abbrev pub sized_word : SizedInteger → Keyword
sized_word sized.Int8 = word.Int8
sized_word sized.Int16 = word.Int16
sized_word sized.Int32 = word.Int32
sized_word sized.Int64 = word.Int64
sized_word sized.Uint8 = word.Uint8
sized_word sized.Uint16 = word.Uint16
sized_word sized.Uint32 = word.Uint32
sized_word sized.Uint64 = word.Uint64

-- int = ["unsigned"] ( "short" | "long" | "long" "long" ) | sized; and "char" | "wchar" |
-- "boolean" | "octet"
abbrev pub spell_discrete : DiscreteType → Lexemes
spell_discrete (discrete.Integer i) = spell_sign i.is_unsigned ++ spell_size i.size
spell_discrete (discrete.Sized s) = Word (sized_word s) ∷ []
spell_discrete discrete.Char = Word word.Char ∷ []
spell_discrete discrete.WideChar = Word word.Wchar ∷ []
spell_discrete discrete.Boolean = Word word.Boolean ∷ []
spell_discrete discrete.Octet = Word word.Octet ∷ []

-- the types of keywords
abbrev pub spell_basic : BasicType → Lexemes
spell_basic (basic.Discrete d) = spell_discrete d
spell_basic basic.Float = Word word.Float ∷ []
spell_basic basic.Double = Word word.Double ∷ []
spell_basic basic.LongDouble = Word word.Long ∷ Word word.Double ∷ []
spell_basic basic.Any = Word word.Any ∷ []
spell_basic basic.Object = Word word.Object ∷ []

-- [ "<" expr ">" ]
abbrev pub spell_bound : Option Expression → Lexemes
spell_bound None = []
spell_bound (Some e) = Punctuation mark.Less ∷ (spell_expression e ++ Punctuation mark.Greater ∷ [])

abbrev pub spell_string_word : Bool → Lexemes
spell_string_word true = Word word.Wstring ∷ []
spell_string_word false = Word word.String ∷ []

-- string = ( "string" | "wstring" ) [ "<" expr ">" ]
abbrev pub spell_string : StringType → Lexemes
spell_string s = spell_string_word s.is_wide ++ spell_bound s.bound

-- ptype
abbrev pub spell_plain : PlainType → Lexemes
spell_plain (plain.Basic b) = spell_basic b
spell_plain (plain.String s) = spell_string s
spell_plain (plain.Name n) = spell_name n

-- [ "," expr ]
abbrev pub spell_limit : Option Expression → Lexemes
spell_limit None = []
spell_limit (Some e) = Punctuation mark.Comma ∷ spell_expression e

-- type = ptype | "sequence" "<" type [ "," expr ] ">"
abbrev pub data_type_step : TypeTree-F Lexemes Lexemes → Lexemes
data_type_step (TypeTree-F.Plain p) = spell_plain p
data_type_step (TypeTree-F.Sequence inner) = inner

abbrev pub sequence_step : Sequence-F Lexemes Lexemes → Lexemes
sequence_step s =
    Word word.Sequence ∷ Punctuation mark.Less
    ∷ (s.element ++ (spell_limit s.bound ++ Punctuation mark.Greater ∷ []))

unfoldable pub spell_type : TypeTree → Lexemes
spell_type = fold-TypeTree Lexemes Lexemes data_type_step sequence_step

-- "[" expr "]"
abbrev pub spell_length : Expression → Lexemes
spell_length e =
    Punctuation mark.OpenBracket ∷ (spell_expression e ++ Punctuation mark.CloseBracket ∷ [])

-- declr = ID ( "[" expr "]" )*
abbrev pub spell_declarator : Declarator → Lexemes
spell_declarator d = Identifier d.name ∷ flat_map spell_length d.lengths
