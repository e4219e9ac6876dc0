-- The rows of a listing: a line for each kind of name, and of TypeCodes one for each form.
use Rattle.std.specs.Prelude.{ℕ, List, [], ◌∷◌, ◌++◌, Option, None, Some, codes, decimal, flat_map, is_none, position, reverse, if◌then◌else◌}
use Rattle.std.specs.Option.{option_map, unwrap_or}
use Rattle.idl_entity.specs.Path.{name_of}
use Rattle.idl_entity.specs.declared.data_type.DataType.{DataType}
use Rattle.idl_entity.specs.declared.data_type.Element.{Element}
use Rattle.idl_entity.specs.declared.data_type.Element.TheVariants.{Constants, Named, Unvalued}
use Rattle.idl_entity.specs.declared.data_type.Layer.{Layer}
use Rattle.idl_entity.specs.declared.data_type.Layer.TheVariants.{Array, Sequence}
use Rattle.idl_entity.specs.declared.entity.Entity.{Entity}
use Rattle.idl_entity.specs.declared.kind.Kind.{Kind}
use Rattle.idl_entity.specs.declared.kind.Kind.TheVariants as kind
use Rattle.idl_entity.specs.declared.signature.Member.{Member}
use Rattle.idl_entity.specs.declared.signature.Signature.{Signature}
use Rattle.idl_entity.specs.declared.unvalued.Unvalued.TheVariants as unvalued
use Rattle.idl_plain.specs.Types.{of_integers}
use Rattle.idl_repo.specs.Pieces.{IdOf, Pieces, Says, commas, says, with_commas}
use Rattle.idl_repo.specs.TypeCode.{listed_value}
use Rattle.idl_value.specs.Spelled.{value_word}
use Rattle.idl_value.specs.declared.constant_type.ConstantType.TheVariants as target
use Rattle.idl_value.specs.declared.value.Value.TheVariants.{Text}

-- references to what is declared at these paths: `@` and the id of each, with commas between
abbrev pub references : List (List (List ℕ)) → Pieces
references paths = commas (λ path. Says (codes "@") ∷ IdOf path ∷ []) paths

-- a type of keywords, or one that is named
abbrev pub element_row : Element → Pieces
element_row (Constants (target.Integer k)) = says (of_integers k).0
element_row (Constants target.Boolean) = says (codes "tk_boolean")
element_row (Constants target.Character) = says (codes "tk_char")
element_row (Constants target.WideCharacter) = says (codes "tk_wchar")
element_row (Constants (target.Text bound)) =
    says (codes "tk_string(" ++ (unwrap_or (option_map decimal bound) (codes "0") ++ codes ")"))
element_row (Constants (target.WideText bound)) =
    says (codes "tk_wstring(" ++ (unwrap_or (option_map decimal bound) (codes "0") ++ codes ")"))
element_row (Constants (target.Enumeration path)) = says []
element_row (Named path) = Says (codes "@") ∷ IdOf path ∷ []
element_row (Unvalued unvalued.Float) = says (codes "tk_float")
element_row (Unvalued unvalued.Double) = says (codes "tk_double")
element_row (Unvalued unvalued.LongDouble) = says (codes "tk_longdouble")
element_row (Unvalued unvalued.Any) = says (codes "tk_any")
element_row (Unvalued unvalued.Object) =
    says (codes "tk_objref(IDL:omg.org/CORBA/Object:1.0,Object)")

-- how a sequence or an array begins, and its bound or length
abbrev pub layer_row : Layer → List ℕ × ℕ
layer_row (Sequence bound) = (codes "tk_sequence(", bound)
layer_row (Array length) = (codes "tk_array(", length)

-- a type, in whose layers the innermost stands first
abbrev pub type_row : Option DataType → Pieces
type_row None = says (codes "tk_void")
type_row (Some t) =
    Says (flat_map (λ layer. (layer_row layer).0) (reverse t.layers))
    ∷ (element_row t.element
    ++ says (flat_map (λ layer. codes "," ++ (decimal (layer_row layer).1 ++ codes ")")) t.layers))

-- a member or a parameter
abbrev pub member_row : Member → Pieces
member_row m = Says m.name ∷ Says (codes ":") ∷ type_row m.data_type

-- the entries of a union's labels, behind the number of that of `default`, or -1
abbrev pub entries_row : List Member → Pieces
entries_row members =
    let labels = flat_map (λ m. m.labels) members in
    let default = unwrap_or (option_map decimal (position is_none labels)) (codes "-1") in
    Says (codes ",") ∷ Says default ∷ flat_map (λ m. flat_map (λ label.
    Says (codes ",") ∷ Says (unwrap_or (option_map listed_value label) (codes "default"))
    ∷ Says (codes ":") ∷ member_row m) m.labels) members

-- a TypeCode: how it begins, the id and the name, and its parts
abbrev pub code_row : List ℕ → Entity → Pieces → Pieces
code_row head e parts =
    Says head ∷ IdOf e.path ∷ Says (codes ",") ∷ Says (name_of e.path) ∷ (parts ++ says (codes ")"))

-- DIR NAME:TYPE
abbrev pub parameter_row : Member → Pieces
parameter_row m =
    let out = if m.goes_in then codes "inout" else codes "out" in
    Says (if m.comes_out then out else codes "in") ∷ Says (codes " ") ∷ member_row m

-- the word of what has this kind and shows this, and what stands behind its id
abbrev pub kind_row : Entity → Signature → Kind → List ℕ × Pieces
kind_row e shown kind.Module = (codes "module", [])
kind_row e shown kind.Interface = (
  codes "interface",
  code_row (if e.is_local then codes " tk_local_interface(" else codes " tk_objref(") e []
      ++ Says (codes " bases(") ∷ (references e.bases ++ says (codes ")")),
)
kind_row e shown kind.Structure =
    let members = flat_map (λ m. Says (codes ",") ∷ member_row m) shown.members in
    let base : Pieces = elim e.bases [
      | [] ↦ []
      | path ∷ paths ↦ Says (codes " base(") ∷ (references (path ∷ paths) ++ says (codes ")"))
    ] in
    (codes "struct", code_row (codes " tk_struct(") e members ++ base)
kind_row e shown kind.Union =
    let labels = Says (codes ",") ∷ type_row e.data_type in
    (codes "union", code_row (codes " tk_union(") e (labels ++ entries_row shown.members))
kind_row e shown kind.Exception = (
  codes "exception",
  code_row (codes " tk_except(") e (flat_map (λ m. Says (codes ",") ∷ member_row m) shown.members),
)
kind_row e shown kind.Enumeration =
    let enumerators = flat_map (λ n. codes "," ++ n) e.enumerators in
    (codes "enum", code_row (codes " tk_enum(") e (says enumerators))
kind_row e shown kind.Alias =
    (codes "alias", code_row (codes " tk_alias(") e (Says (codes ",") ∷ type_row e.data_type))
kind_row e shown kind.Native = (codes "native", code_row (codes " tk_native(") e [])
kind_row e shown kind.Constant =
    let value : Pieces = elim e.value [ None ↦ [] | Some v ↦ says (listed_value v) ] in
    (codes "const", Says (codes " ") ∷ (type_row e.data_type ++ Says (codes " ") ∷ value))
kind_row e shown kind.Attribute = (
  codes "attribute",
  Says (if e.is_readonly then codes " readonly " else codes " ")
      ∷ (type_row e.data_type
      ++ Says (codes " get(") ∷ (references shown.raised
      ++ Says (codes ") set(") ∷ (references shown.raised_by_set ++ says (codes ")")))),
)
kind_row e shown kind.Operation =
    let contexts = with_commas (λ text. value_word (Text text)) shown.contexts in (
      codes "operation",
      Says (if e.is_oneway then codes " oneway " else codes " ")
          ∷ (type_row e.data_type
          ++ Says (codes " (") ∷ (commas parameter_row shown.members
          ++ Says (codes ") raises(") ∷ (references shown.raised
          ++ Says (codes ") context(") ∷ Says contexts ∷ says (codes ")")))),
    )
kind_row e shown other = ([], [])
