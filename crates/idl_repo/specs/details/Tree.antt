-- The tree of a row, over a bank: each id is told as the bank answers.
use Rattle.std.specs.Prelude.{ℕ, List, [], flat_map, map, Option, None, Some, if◌then◌else◌}
use Rattle.std.specs.Option.{option_map}
use Rattle.idl_memo.specs.Query.{outcome}
use Rattle.idl_repo.specs.declared.details.reference.Reference.{Reference}
use Rattle.idl_repo.specs.declared.details.row_tree.AttributeTree.{AttributeTree}
use Rattle.idl_repo.specs.declared.details.row_tree.ConstantTree.{ConstantTree}
use Rattle.idl_repo.specs.declared.details.row_tree.OperationTree.{OperationTree}
use Rattle.idl_repo.specs.declared.details.row_tree.ParameterTree.{ParameterTree}
use Rattle.idl_repo.specs.declared.details.row_tree.RowDetails.{RowDetails}
use Rattle.idl_repo.specs.declared.details.row_tree.RowDetails.TheVariants as row
use Rattle.idl_repo.specs.declared.details.row_tree.RowTree.{RowTree}
use Rattle.idl_repo.specs.declared.details.type_code_tree.CaseTree.{CaseTree}
use Rattle.idl_repo.specs.declared.details.type_code_tree.MemberTree.{MemberTree}
use Rattle.idl_repo.specs.declared.details.type_code_tree.TypeCodeParts.{TypeCodeParts}
use Rattle.idl_repo.specs.declared.details.type_code_tree.TypeCodeParts.TheVariants as parts
use Rattle.idl_repo.specs.declared.details.type_code_tree.UnionTree.{UnionTree}
use Rattle.idl_repo.specs.declared.details.type_tree.ElementTree.{ElementTree}
use Rattle.idl_repo.specs.declared.details.type_tree.ElementTree.TheVariants as tree
use Rattle.idl_repo.specs.declared.details.type_tree.LayeredType.{LayeredType}
use Rattle.idl_entity.specs.Path.{name_of}
use Rattle.idl_entity.specs.declared.data_type.DataType.{DataType}
use Rattle.idl_entity.specs.declared.data_type.Element.{Element}
use Rattle.idl_entity.specs.declared.data_type.Element.TheVariants as element
use Rattle.idl_entity.specs.declared.entity.Entity.{Entity}
use Rattle.idl_entity.specs.declared.kind.Kind.{Kind}
use Rattle.idl_entity.specs.declared.kind.Kind.TheVariants as kind
use Rattle.idl_entity.specs.declared.signature.Member.{Member}
use Rattle.idl_env.specs.declared.answering.answer.Answer.{Answer}
use Rattle.idl_env.specs.declared.keys.key.Key.{Key}
use Rattle.idl_repo.specs.Row.{context_word, path_text}
use Rattle.idl_repo.specs.TypeCode.{default_of, listed_value, shown}
use Rattle.idl_scope.specs.Known.{id_of}
use Rattle.idl_value.specs.declared.value.Value.{Value}

-- what answers of names
abbrev pub Bank : Type 0
Bank = Key → Option Answer

-- the id of what is declared at a path
abbrev pub id_over : Bank → List (List ℕ) → List ℕ
id_over bank path = outcome (id_of path) bank

-- a reference to it: its id, and the path as a row tells it
abbrev pub reference_over : Bank → List (List ℕ) → Reference
reference_over bank path = record { id = id_over bank path; path = path_text path }

abbrev pub references_over : Bank → List (List (List ℕ)) → List Reference
references_over bank paths = map (reference_over bank) paths

-- a type: a named one is referred to, and where there is none it is void
abbrev pub element_over : Bank → Element → ElementTree
element_over bank (element.Constants t) = tree.Constants t
element_over bank (element.Named path) = tree.Named (reference_over bank path)
element_over bank (element.Unvalued u) = tree.Unvalued u

abbrev pub type_over : Bank → Option DataType → LayeredType
type_over bank None = record { element = tree.Void; layers = [] }
type_over bank (Some t) = record { element = element_over bank t.element; layers = t.layers }

-- a member, or a parameter
abbrev pub member_over : Bank → Member → MemberTree
member_over bank m = record { name = m.name; data_type = type_over bank m.data_type }

abbrev pub members_over : Bank → Entity → List MemberTree
members_over bank e = map (member_over bank) (shown e).members

-- of a union an entry for each label of each member
abbrev pub case_over : Bank → Member → Option Value → CaseTree
case_over bank m label =
    record { label = option_map listed_value label; member = member_over bank m }

abbrev pub cases_of : Bank → Member → List CaseTree
cases_of bank m = map (case_over bank m) m.labels

abbrev pub union_over : Bank → Entity → UnionTree
union_over bank e = record {
  discriminator = type_over bank e.data_type;
  default = default_of (shown e).members;
  cases = flat_map (cases_of bank) (shown e).members;
}

abbrev pub constant_over : Bank → Entity → ConstantTree
constant_over bank e =
    record { data_type = type_over bank e.data_type; value = option_map listed_value e.value }

abbrev pub attribute_over : Bank → Entity → AttributeTree
attribute_over bank e = record {
  is_readonly = e.is_readonly;
  data_type = type_over bank e.data_type;
  raised = references_over bank (shown e).raised;
  raised_by_set = references_over bank (shown e).raised_by_set;
}

abbrev pub parameter_over : Bank → Member → ParameterTree
parameter_over bank m =
    record { goes_in = m.goes_in; comes_out = m.comes_out; member = member_over bank m }

abbrev pub operation_over : Bank → Entity → OperationTree
operation_over bank e = record {
  is_oneway = e.is_oneway;
  data_type = type_over bank e.data_type;
  parameters = map (parameter_over bank) (shown e).members;
  raised = references_over bank (shown e).raised;
  contexts = map context_word (shown e).contexts;
}

-- of a name that has a TypeCode: that, and the bases
abbrev pub declared_over : Bank → Entity → List (List (List ℕ)) → TypeCodeParts → RowDetails
declared_over bank e bases p = row.Type (record {
  code = record { id = id_over bank e.path; name = name_of e.path; parts = p };
  bases = references_over bank bases;
})

-- what a row tells behind the id
abbrev pub details_over : Bank → Kind → Entity → RowDetails
details_over bank kind.Interface e =
    declared_over bank e e.bases
    (if e.is_local then parts.LocalInterface else parts.ObjectReference)
details_over bank kind.Structure e =
    declared_over bank e e.bases (parts.Structure (members_over bank e))
details_over bank kind.Union e = declared_over bank e [] (parts.Union (union_over bank e))
details_over bank kind.Exception e = declared_over bank e [] (parts.Exception (members_over bank e))
details_over bank kind.Enumeration e = declared_over bank e [] (parts.Enumeration e.enumerators)
details_over bank kind.Alias e = declared_over bank e [] (parts.Alias (type_over bank e.data_type))
details_over bank kind.Native e = declared_over bank e [] parts.Native
details_over bank kind.Constant e = row.Constant (constant_over bank e)
details_over bank kind.Attribute e = row.Attribute (attribute_over bank e)
details_over bank kind.Operation e = row.Operation (operation_over bank e)
details_over bank other e = row.Nothing

-- the tree of what is declared so
abbrev pub tree_over : Bank → Entity → RowTree
tree_over bank e = record {
  kind = e.kind;
  path = path_text e.path;
  id = id_over bank e.path;
  details = details_over bank e.kind e;
}
