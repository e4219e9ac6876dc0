-- TypeCodes, and how they and types are written: one equation for each line of the format.
use Rattle.std.specs.Prelude.{ℕ, ◌+◌, Bool, true, false, List, [], ◌∷◌, ◌++◌, codes, decimal, flat_map, Option, None, Some}
use Rattle.std.specs.Option.{option_map, unwrap_or}
use Rattle.idl_repo.specs.Pieces.{Pieces, IdOf, Says, says}
use Rattle.idl_entity.specs.Path.{name_of}
use Rattle.idl_entity.specs.declared.data_type.DataType.{DataType}
use Rattle.idl_entity.specs.declared.data_type.Element.{Element}
use Rattle.idl_entity.specs.declared.data_type.Element.TheVariants as element
use Rattle.idl_entity.specs.declared.data_type.Layer.{Layer}
use Rattle.idl_entity.specs.declared.data_type.Layer.TheVariants.{Sequence, Array}
use Rattle.idl_entity.specs.declared.unvalued.Unvalued.{Unvalued}
use Rattle.idl_entity.specs.declared.unvalued.Unvalued.TheVariants as unvalued
use Rattle.idl_entity.specs.declared.entity.Entity.{Entity}
use Rattle.idl_entity.specs.declared.signature.Member.{Member}
use Rattle.idl_entity.specs.declared.signature.Signature.{Signature}
use Rattle.idl_value.specs.Spelled.{value_word}
use Rattle.idl_value.specs.declared.integer.IntegerKind.{IntegerKind}
use Rattle.idl_value.specs.declared.integer.IntegerKind.TheVariants as integer
use Rattle.idl_value.specs.declared.constant_type.ConstantType.{ConstantType}
use Rattle.idl_value.specs.declared.constant_type.ConstantType.TheVariants as target
use Rattle.idl_value.specs.declared.value.Value.{Value}
use Rattle.idl_value.specs.declared.value.Value.TheVariants as value

-- the word of an integer type
abbrev pub integer_word : IntegerKind → List ℕ
integer_word integer.Octet = codes "tk_octet"
integer_word integer.Int8 = codes "tk_int8"
integer_word integer.Uint8 = codes "tk_uint8"
integer_word integer.Short = codes "tk_short"
integer_word integer.UnsignedShort = codes "tk_ushort"
integer_word integer.Long = codes "tk_long"
integer_word integer.UnsignedLong = codes "tk_ulong"
integer_word integer.LongLong = codes "tk_longlong"
integer_word integer.UnsignedLongLong = codes "tk_ulonglong"

-- a bound, or 0 for none
abbrev pub bound_word : Option ℕ → List ℕ
bound_word None = codes "0"
bound_word (Some n) = decimal n

abbrev pub string_word : List ℕ → Option ℕ → List ℕ
string_word word bound = word ++ (bound_word bound ++ codes ")")

-- a type of keywords of which there are constants; an enum has a name
abbrev pub target_word : ConstantType → List ℕ
target_word (target.Integer k) = integer_word k
target_word target.Boolean = codes "tk_boolean"
target_word target.Character = codes "tk_char"
target_word target.WideCharacter = codes "tk_wchar"
target_word (target.Text bound) = string_word (codes "tk_string(") bound
target_word (target.WideText bound) = string_word (codes "tk_wstring(") bound
target_word (target.Enumeration path) = []

-- one of which there are none
abbrev pub unvalued_word : Unvalued → List ℕ
unvalued_word unvalued.Float = codes "tk_float"
unvalued_word unvalued.Double = codes "tk_double"
unvalued_word unvalued.LongDouble = codes "tk_longdouble"
unvalued_word unvalued.Any = codes "tk_any"
unvalued_word unvalued.Object = codes "tk_objref(IDL:omg.org/CORBA/Object:1.0,Object)"

-- a reference: `@` and the id of what is declared at a path
abbrev pub reference : List (List ℕ) → Pieces
reference path = Says (codes "@") ∷ IdOf path ∷ []

abbrev pub element_pieces : Element → Pieces
element_pieces (element.Constants t) = says (target_word t)
element_pieces (element.Named path) = reference path
element_pieces (element.Unvalued u) = says (unvalued_word u)

-- where a sequence or an array begins, and where it ends
abbrev pub layer_word : Layer → List ℕ
layer_word (Sequence bound) = codes "tk_sequence("
layer_word (Array length) = codes "tk_array("

-- those of layers, the outermost of which, the last, begins first
abbrev pub layers_begin : List Layer → List ℕ
layers_begin [] = []
layers_begin (layer ∷ layers) = layers_begin layers ++ layer_word layer

abbrev pub size_of : Layer → ℕ
size_of (Sequence bound) = bound
size_of (Array length) = length

abbrev pub layer_end : Layer → List ℕ
layer_end layer = codes "," ++ (decimal (size_of layer) ++ codes ")")

-- A type: a named one is told by its id, and another one is written in place.
abbrev pub written_type : DataType → Pieces
written_type t =
    Says (layers_begin t.layers)
    ∷ (element_pieces t.element ++ says (flat_map layer_end t.layers))

abbrev pub type_pieces : Option DataType → Pieces
type_pieces None = says (codes "tk_void")
type_pieces (Some t) = written_type t

-- the type of a union's labels, or what a typedef names
abbrev pub type_behind : Option DataType → Pieces
type_behind t = Says (codes ",") ∷ type_pieces t

-- a member or a parameter: its name, and its type
abbrev pub typed_pieces : Member → Pieces
typed_pieces m = Says m.name ∷ Says (codes ":") ∷ type_pieces m.data_type

abbrev pub member_pieces : Member → Pieces
member_pieces m = Says (codes ",") ∷ typed_pieces m

-- a value, of an enumerator its name alone
abbrev pub listed_value : Value → List ℕ
listed_value (value.Enumerator enumeration name) = name
listed_value other = value_word other

abbrev pub label_word : Option Value → List ℕ
label_word label = unwrap_or (option_map listed_value label) (codes "default")

-- the entry of a union's label
abbrev pub entry_pieces : Option Value → Member → Pieces
entry_pieces label m =
    Says (codes ",") ∷ Says (label_word label) ∷ Says (codes ":") ∷ typed_pieces m

abbrev pub labelled_pieces : Member → Pieces
labelled_pieces m = flat_map (λ label. entry_pieces label m) m.labels

-- the number of the first `default` among labels, of which the first has this number
abbrev pub default_at : ℕ → List (Option Value) → Option ℕ
default_at n [] = None
default_at n (None ∷ labels) = Some n
default_at n (Some v ∷ labels) = default_at (n + 1) labels

abbrev pub default_word : Option ℕ → List ℕ
default_word None = codes "-1"
default_word (Some n) = decimal n

-- that of the entries of members
abbrev pub default_of : List Member → Option ℕ
default_of members = default_at 0 (flat_map (λ m. m.labels) members)

-- the number of the entry of `default`, or -1, and then the entries
abbrev pub entries_of : List Member → Pieces
entries_of members =
    Says (codes ",") ∷ Says (default_word (default_of members)) ∷ flat_map labelled_pieces members

-- what an entity shows behind its name: nothing, where that isn't told
abbrev pub shown : Entity → Signature
shown e =
    unwrap_or e.signature (record { members = []; raised = []; raised_by_set = []; contexts = [] })

abbrev pub enumerator_word : List ℕ → List ℕ
enumerator_word name = codes "," ++ name

-- how the TypeCode of an interface begins, behind a blank
abbrev pub interface_head : Bool → List ℕ
interface_head true = codes " tk_local_interface("
interface_head false = codes " tk_objref("

-- a TypeCode that begins so, up to its parts, and with them
abbrev pub begin_pieces : List ℕ → Entity → Pieces
begin_pieces head e = Says head ∷ IdOf e.path ∷ Says (codes ",") ∷ says (name_of e.path)

abbrev pub code_pieces : List ℕ → Entity → Pieces → Pieces
code_pieces head e parts = begin_pieces head e ++ (parts ++ says (codes ")"))
