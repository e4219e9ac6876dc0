-- Types in JSON.
use Rattle.std.specs.Prelude.{ℕ, zero, suc, List, [], ◌∷◌, codes, Option, None, Some}
use Rattle.serde_json.specs.Data.{Data, null}
use Rattle.idl_entity.specs.declared.data_type.Layer.{Layer}
use Rattle.idl_entity.specs.declared.data_type.Layer.TheVariants.{Sequence, Array}
use Rattle.idl_entity.specs.declared.unvalued.Unvalued.{Unvalued}
use Rattle.idl_entity.specs.declared.unvalued.Unvalued.TheVariants.{Object}
use Rattle.idl_value.specs.declared.constant_type.ConstantType.{ConstantType}
use Rattle.idl_value.specs.declared.constant_type.ConstantType.TheVariants as target
use Rattle.idl_repo.specs.TypeCode.{integer_word, unvalued_word}
use Rattle.idl_repo.specs.declared.details.reference.Reference.{Reference}
use Rattle.idl_repo.specs.declared.details.type_tree.ElementTree.{ElementTree}
use Rattle.idl_repo.specs.declared.details.type_tree.ElementTree.TheVariants as tree
use Rattle.idl_repo.specs.declared.details.type_tree.LayeredType.{LayeredType}
use Rattle.idl_json.specs.Objects.{list_json, number_json, object_of}
use Rattle.idl_json.specs.Text.{text_json, texts_json}

-- a type of which its word tells all
abbrev pub word_json : List ℕ → Data
word_json word = object_of ((codes "kind", text_json word) ∷ [])

-- a bound, or 0 for none; no type has a bound of 0
abbrev pub bound_json : Option ℕ → Data
bound_json None = number_json 0
bound_json (Some zero) = null
bound_json (Some (suc n)) = number_json (suc n)

abbrev pub string_json : List ℕ → Option ℕ → Data
string_json word bound =
    object_of ((codes "kind", text_json word) ∷ (codes "bound", bound_json bound) ∷ [])

-- a type of keywords of which there are constants; an enum is told by its id, and none is told here
abbrev pub constants_json : ConstantType → Data
constants_json (target.Integer k) = word_json (integer_word k)
constants_json target.Boolean = word_json (codes "tk_boolean")
constants_json target.Character = word_json (codes "tk_char")
constants_json target.WideCharacter = word_json (codes "tk_wchar")
constants_json (target.Text bound) = string_json (codes "tk_string") bound
constants_json (target.WideText bound) = string_json (codes "tk_wstring") bound
constants_json (target.Enumeration path) =
    object_of ((codes "kind", text_json (codes "tk_enum")) ∷ (codes "names", texts_json path) ∷ [])

-- one of which there are none
abbrev pub object_json : Data
object_json = object_of (
    (codes "kind", text_json (codes "tk_objref"))
    ∷ (codes "id", text_json (codes "IDL:omg.org/CORBA/Object:1.0"))
    ∷ (codes "name", text_json (codes "Object")) ∷ [])

abbrev pub unvalued_json : Unvalued → Data
unvalued_json Object = object_json
unvalued_json other = word_json (unvalued_word other)

-- a reference: the id that is listed, and the path
abbrev pub reference_json : Reference → Data
reference_json r = object_of ((codes "ref", text_json r.id) ∷ (codes "path", text_json r.path) ∷ [])

abbrev pub references_json : List Reference → Data
references_json = list_json reference_json

abbrev pub element_json : ElementTree → Data
element_json tree.Void = word_json (codes "tk_void")
element_json (tree.Constants t) = constants_json t
element_json (tree.Unvalued u) = unvalued_json u
element_json (tree.Named r) = reference_json r

abbrev pub sequence_json : ℕ → Data → Data
sequence_json bound element = object_of (
    (codes "kind", text_json (codes "tk_sequence"))
    ∷ (codes "bound", number_json bound)
    ∷ (codes "element", element) ∷ [])

-- arrays around one another are one, with all lengths, the outermost first, so that types nest no
-- deeper than sequences do
abbrev pub arrays_json : List ℕ → Data → Data
arrays_json [] element = element
arrays_json (length ∷ lengths) element = object_of (
    (codes "kind", text_json (codes "tk_array"))
    ∷ (codes "lengths", list_json number_json (length ∷ lengths))
    ∷ (codes "element", element) ∷ [])

-- an element within arrays of these lengths, within these layers, the innermost first
abbrev pub layered : Data → List ℕ → List Layer → Data
layered element lengths [] = arrays_json lengths element
layered element lengths (Array length ∷ layers) = layered element (length ∷ lengths) layers
layered element lengths (Sequence bound ∷ layers) =
    layered (sequence_json bound (arrays_json lengths element)) [] layers

abbrev pub type_json : LayeredType → Data
type_json t = layered (element_json t.element) [] t.layers
