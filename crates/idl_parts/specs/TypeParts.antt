-- The parts of types and of declared names.
use Rattle.std.specs.Prelude.{List, [], ◌∷◌, ◌++◌, flat_map, is_some, Option, None, Some}
use Rattle.idl_lex.specs.declared.kinds.keyword.Keyword.TheVariants as word
use Rattle.idl_lex.specs.declared.kinds.mark.Mark.TheVariants as mark
use Rattle.idl_parts.specs.ExpressionParts.{value_parts}
use Rattle.idl_parts.specs.Part.{Parts, Plain, ArrayEnds, Declares, TypeEnds, Uses, punctuation}
use Rattle.idl_parts.specs.declared.part.Declaration.{Declaration}
use Rattle.idl_parts.specs.declared.part.Shape.TheVariants.{Basic, Text, Sequence as Elements}
use Rattle.idl_parts.specs.declared.part.Purpose.TheVariants.{Bound, Length}
use Rattle.idl_parts.specs.declared.part.Use.{Use}
use Rattle.idl_parts.specs.declared.part.Use.TheVariants.{AsType, AsElement, AsConstantType}
use Rattle.idl_tree.specs.DataType.{spell_basic, spell_discrete, spell_string_word}
use Rattle.idl_tree.specs.Lexeme.{Word, Punctuation}
use Rattle.idl_tree.specs.declared.declarations.data_type.BasicType.TheVariants.{Discrete}
use Rattle.idl_tree.specs.declared.declarations.data_type.TypeTree.{TypeTree, fold-TypeTree}
use Rattle.idl_tree.specs.declared.declarations.data_type.TypeTree.TheOpen.{TypeTree-F, Sequence-F}
use Rattle.idl_tree.specs.declared.declarations.data_type.PlainType.{PlainType}
use Rattle.idl_tree.specs.declared.declarations.data_type.PlainType.TheVariants as plain
use Rattle.idl_tree.specs.declared.declarations.data_type.StringType.{StringType}
use Rattle.idl_tree.specs.declared.declarations.declarator.Declarator.{Declarator}
use Rattle.idl_tree.specs.declared.expression.Expression.{Expression}
use Rattle.idl_tree.specs.declared.unit.ConstantTypeTree.{ConstantTypeTree}
use Rattle.idl_tree.specs.declared.unit.ConstantTypeTree.TheVariants as constant

-- [ "<" expr ">" ]
abbrev pub bound_parts : Option Expression → Parts
bound_parts None = []
bound_parts (Some e) =
    punctuation mark.Less ∷ (value_parts Bound e ++ punctuation mark.Greater ∷ [])

-- string = ( "string" | "wstring" ) [ "<" expr ">" ]
abbrev pub string_parts : StringType → Parts
string_parts s =
    Plain (spell_string_word s.is_wide)
    ∷ (bound_parts s.bound ++ TypeEnds (Text s.is_wide (is_some s.bound)) ∷ [])

-- ptype, whose name is used so
abbrev pub plain_parts : PlainType → Use → Parts
plain_parts (plain.Basic b) way = Plain (spell_basic b) ∷ TypeEnds (Basic b) ∷ []
plain_parts (plain.String s) way = string_parts s
plain_parts (plain.Name n) way = Uses way n ∷ []

-- [ "," expr ]
abbrev pub limit_parts : Option Expression → Parts
limit_parts None = []
limit_parts (Some e) = punctuation mark.Comma ∷ value_parts Bound e

-- type = ptype | "sequence" "<" type [ "," expr ] ">"
abbrev pub data_type_step : TypeTree-F (Use → Parts) (Use → Parts) → Use → Parts
data_type_step (TypeTree-F.Plain p) way = plain_parts p way
data_type_step (TypeTree-F.Sequence inner) way = inner way

abbrev pub sequence_step : Sequence-F (Use → Parts) (Use → Parts) → Use → Parts
sequence_step s way =
    Plain (Word word.Sequence ∷ Punctuation mark.Less ∷ [])
    ∷ (s.element AsElement
    ++ (limit_parts s.bound
    ++ punctuation mark.Greater ∷ TypeEnds (Elements (is_some s.bound)) ∷ []))

-- a type; a name that it is itself is used so
unfoldable pub type_parts_as : TypeTree → Use → Parts
type_parts_as = fold-TypeTree (Use → Parts) (Use → Parts) data_type_step sequence_step

abbrev pub type_parts : TypeTree → Parts
type_parts t = type_parts_as t AsType

-- ctype
abbrev pub constant_type_parts : ConstantTypeTree → Parts
constant_type_parts (constant.Discrete d) =
    Plain (spell_discrete d) ∷ TypeEnds (Basic (Discrete d)) ∷ []
constant_type_parts (constant.String s) = string_parts s
constant_type_parts (constant.Name n) = Uses AsConstantType n ∷ []

-- "[" expr "]"
abbrev pub length_parts : Expression → Parts
length_parts e =
    punctuation mark.OpenBracket ∷ (value_parts Length e ++ punctuation mark.CloseBracket ∷ [])

-- behind the lengths of an array, if it is one
abbrev pub array_end : List Expression → Parts
array_end [] = []
array_end (e ∷ lengths) = ArrayEnds ∷ []

-- declr = ID ( "[" expr "]" )*
abbrev pub declarator_parts : Declaration → Declarator → Parts
declarator_parts declaration d =
    Declares declaration d.name ∷ (flat_map length_parts d.lengths ++ array_end d.lengths)
