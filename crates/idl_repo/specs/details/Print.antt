-- The row that a tree is printed as: one equation for each line of the format.
use Rattle.std.specs.Prelude.{ℕ, List, [], ◌∷◌, ◌++◌, codes, flat_map, if◌then◌else◌}
use Rattle.std.specs.Option.{unwrap_or}
use Rattle.idl_repo.specs.declared.details.reference.Reference.{Reference}
use Rattle.idl_repo.specs.declared.details.row_tree.AttributeTree.{AttributeTree}
use Rattle.idl_repo.specs.declared.details.row_tree.ConstantTree.{ConstantTree}
use Rattle.idl_repo.specs.declared.details.row_tree.OperationTree.{OperationTree}
use Rattle.idl_repo.specs.declared.details.row_tree.ParameterTree.{ParameterTree}
use Rattle.idl_repo.specs.declared.details.row_tree.RowDetails.{RowDetails}
use Rattle.idl_repo.specs.declared.details.row_tree.RowDetails.TheVariants as row
use Rattle.idl_repo.specs.declared.details.row_tree.RowTree.{RowTree}
use Rattle.idl_repo.specs.declared.details.type_code_tree.CaseTree.{CaseTree}
use Rattle.idl_repo.specs.declared.details.type_code_tree.MemberTree.{MemberTree}
use Rattle.idl_repo.specs.declared.details.type_code_tree.TypeCodeParts.{TypeCodeParts}
use Rattle.idl_repo.specs.declared.details.type_code_tree.TypeCodeParts.TheVariants as parts
use Rattle.idl_repo.specs.declared.details.type_code_tree.TypeCodeTree.{TypeCodeTree}
use Rattle.idl_repo.specs.declared.details.type_tree.ElementTree.{ElementTree}
use Rattle.idl_repo.specs.declared.details.type_tree.ElementTree.TheVariants as tree
use Rattle.idl_repo.specs.declared.details.type_tree.LayeredType.{LayeredType}
use Rattle.idl_entity.specs.Kind.{kind_eq}
use Rattle.idl_entity.specs.declared.kind.Kind.{Kind}
use Rattle.idl_entity.specs.declared.kind.Kind.TheVariants as kind
use Rattle.idl_repo.specs.Pieces.{with_commas}
use Rattle.idl_repo.specs.Row.{direction_word, flag, kind_word}
use Rattle.idl_repo.specs.TypeCode.{default_word, enumerator_word, layer_end, layers_begin, target_word, unvalued_word}

-- a reference: `@` and the id
abbrev pub reference_text : Reference → List ℕ
reference_text r = codes "@" ++ r.id

abbrev pub references_text : List Reference → List ℕ
references_text rs = with_commas reference_text rs

-- a type
abbrev pub element_text : ElementTree → List ℕ
element_text tree.Void = codes "tk_void"
element_text (tree.Constants t) = target_word t
element_text (tree.Unvalued u) = unvalued_word u
element_text (tree.Named r) = reference_text r

abbrev pub type_text : LayeredType → List ℕ
type_text t = layers_begin t.layers ++ (element_text t.element ++ flat_map layer_end t.layers)

-- NAME:TYPE
abbrev pub member_text : MemberTree → List ℕ
member_text m = m.name ++ (codes ":" ++ type_text m.data_type)

abbrev pub member_behind : MemberTree → List ℕ
member_behind m = codes "," ++ member_text m

-- LABEL:NAME:TYPE
abbrev pub case_behind : CaseTree → List ℕ
case_behind c =
    codes "," ++ (unwrap_or c.label (codes "default") ++ (codes ":" ++ member_text c.member))

-- what stands behind a TypeCode's name
abbrev pub parts_text : TypeCodeParts → List ℕ
parts_text parts.ObjectReference = []
parts_text parts.LocalInterface = []
parts_text parts.Native = []
parts_text (parts.Structure members) = flat_map member_behind members
parts_text (parts.Exception members) = flat_map member_behind members
parts_text (parts.Union u) =
    codes "," ++ (type_text u.discriminator
    ++ (codes "," ++ (default_word u.default ++ flat_map case_behind u.cases)))
parts_text (parts.Enumeration names) = flat_map enumerator_word names
parts_text (parts.Alias t) = codes "," ++ type_text t

-- the word of a TypeCode that has these parts
abbrev pub code_word : TypeCodeParts → List ℕ
code_word parts.ObjectReference = codes "tk_objref"
code_word parts.LocalInterface = codes "tk_local_interface"
code_word parts.Native = codes "tk_native"
code_word (parts.Structure members) = codes "tk_struct"
code_word (parts.Exception members) = codes "tk_except"
code_word (parts.Union u) = codes "tk_union"
code_word (parts.Enumeration names) = codes "tk_enum"
code_word (parts.Alias t) = codes "tk_alias"

-- WORD(ID,NAME..)
abbrev pub type_code_text : TypeCodeTree → List ℕ
type_code_text c =
    code_word c.parts
    ++ (codes "(" ++ (c.id ++ (codes "," ++ (c.name ++ (parts_text c.parts ++ codes ")")))))

-- of an interface bases(REF,..), and of a struct with a base base(REF)
abbrev pub base_text : List Reference → List ℕ
base_text [] = []
base_text (r ∷ rs) = codes " base(" ++ (references_text (r ∷ rs) ++ codes ")")

abbrev pub bases_text : Kind → List Reference → List ℕ
bases_text k rs =
    if kind_eq k kind.Interface
    then codes " bases(" ++ (references_text rs ++ codes ")")
    else base_text rs

-- ID TYPE VALUE
abbrev pub constant_text : ConstantTree → List ℕ
constant_text c = codes " " ++ (type_text c.data_type ++ (codes " " ++ unwrap_or c.value []))

-- ID [readonly ]TYPE get(REF,..) set(REF,..)
abbrev pub attribute_text : AttributeTree → List ℕ
attribute_text a =
    flag a.is_readonly (codes " readonly ")
    ++ (type_text a.data_type
    ++ (codes " get("
    ++ (references_text a.raised
    ++ (codes ") set(" ++ (references_text a.raised_by_set ++ codes ")")))))

-- DIR NAME:TYPE
abbrev pub parameter_text : ParameterTree → List ℕ
parameter_text p = direction_word p.goes_in p.comes_out ++ (codes " " ++ member_text p.member)

-- ID [oneway ]TYPE (DIR NAME:TYPE,..) raises(REF,..) context(TEXT,..)
abbrev pub operation_text : OperationTree → List ℕ
operation_text o =
    flag o.is_oneway (codes " oneway ")
    ++ (type_text o.data_type
    ++ (codes " ("
    ++ (with_commas parameter_text o.parameters
    ++ (codes ") raises("
    ++ (references_text o.raised
    ++ (codes ") context(" ++ (with_commas (λ text. text) o.contexts ++ codes ")")))))))

-- what stands behind the id
abbrev pub details_text : Kind → RowDetails → List ℕ
details_text k row.Nothing = []
details_text k (row.Type t) = codes " " ++ (type_code_text t.code ++ bases_text k t.bases)
details_text k (row.Constant c) = constant_text c
details_text k (row.Attribute a) = attribute_text a
details_text k (row.Operation o) = operation_text o

-- the row: its word, the path, the id, and what stands behind that
abbrev pub row_of : RowTree → List ℕ
row_of t =
    kind_word t.kind
    ++ (codes " "
    ++ (t.path ++ (codes " " ++ (t.id ++ details_text t.kind t.details))))
