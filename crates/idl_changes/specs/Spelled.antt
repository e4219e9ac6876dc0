-- Types as IDL writes them.
use Rattle.std.specs.Prelude.{ℕ, List, [], ◌∷◌, ◌++◌, codes, decimal, Option, None, Some, nat_eq, if◌then◌else◌}
use Rattle.idl_entity.specs.declared.data_type.Layer.{Layer}
use Rattle.idl_entity.specs.declared.data_type.Layer.TheVariants.{Array, Sequence}
use Rattle.idl_entity.specs.declared.unvalued.Unvalued.{Unvalued}
use Rattle.idl_entity.specs.declared.unvalued.Unvalued.TheVariants as unvalued
use Rattle.idl_repo.specs.declared.details.type_tree.ElementTree.{ElementTree}
use Rattle.idl_repo.specs.declared.details.type_tree.ElementTree.TheVariants as tree
use Rattle.idl_repo.specs.declared.details.type_tree.LayeredType.{LayeredType}
use Rattle.idl_value.specs.declared.constant_type.ConstantType.{ConstantType}
use Rattle.idl_value.specs.declared.constant_type.ConstantType.TheVariants as target
use Rattle.idl_value.specs.declared.integer.IntegerKind.{IntegerKind}
use Rattle.idl_value.specs.declared.integer.IntegerKind.TheVariants as integer

-- keywords
abbrev pub integer_spelled : IntegerKind → List ℕ
integer_spelled integer.Octet = codes "octet"
integer_spelled integer.Int8 = codes "int8"
integer_spelled integer.Uint8 = codes "uint8"
integer_spelled integer.Short = codes "short"
integer_spelled integer.UnsignedShort = codes "unsigned short"
integer_spelled integer.Long = codes "long"
integer_spelled integer.UnsignedLong = codes "unsigned long"
integer_spelled integer.LongLong = codes "long long"
integer_spelled integer.UnsignedLongLong = codes "unsigned long long"

abbrev pub string_spelled : List ℕ → Option ℕ → List ℕ
string_spelled word None = word
string_spelled word (Some bound) = word ++ (codes "<" ++ (decimal bound ++ codes ">"))

abbrev pub target_spelled : ConstantType → List ℕ
target_spelled (target.Integer kind) = integer_spelled kind
target_spelled target.Boolean = codes "boolean"
target_spelled target.Character = codes "char"
target_spelled target.WideCharacter = codes "wchar"
target_spelled (target.Text bound) = string_spelled (codes "string") bound
target_spelled (target.WideText bound) = string_spelled (codes "wstring") bound
target_spelled (target.Enumeration path) = []

abbrev pub unvalued_spelled : Unvalued → List ℕ
unvalued_spelled unvalued.Float = codes "float"
unvalued_spelled unvalued.Double = codes "double"
unvalued_spelled unvalued.LongDouble = codes "long double"
unvalued_spelled unvalued.Any = codes "any"
unvalued_spelled unvalued.Object = codes "Object"

-- what a type is of: a named one by its path
abbrev pub element_spelled : ElementTree → List ℕ
element_spelled tree.Void = codes "void"
element_spelled (tree.Constants t) = target_spelled t
element_spelled (tree.Unvalued u) = unvalued_spelled u
element_spelled (tree.Named r) = r.path

-- sequence<TYPE>, sequence<TYPE, BOUND>
abbrev pub bound_spelled : ℕ → List ℕ
bound_spelled bound = if nat_eq bound 0 then [] else codes ", " ++ decimal bound

abbrev pub sequence_spelled : ℕ → List ℕ → List ℕ
sequence_spelled bound text = codes "sequence<" ++ (text ++ (bound_spelled bound ++ codes ">"))

-- [LENGTH]
abbrev pub length_spelled : ℕ → List ℕ
length_spelled n = codes "[" ++ (decimal n ++ codes "]")

-- the layers around a text and lengths behind it, the innermost first: a length stands before those
-- of the arrays that are within its own
abbrev pub layers_spelled : (text lengths : List ℕ) → List Layer → List ℕ
layers_spelled text lengths [] = text ++ lengths
layers_spelled text lengths (Array n ∷ layers) =
    layers_spelled text (length_spelled n ++ lengths) layers
layers_spelled text lengths (Sequence bound ∷ layers) =
    layers_spelled (sequence_spelled bound (text ++ lengths)) [] layers

unfoldable pub spelled : LayeredType → List ℕ
spelled t = layers_spelled (element_spelled t.element) [] t.layers
