-- The trees of rows in JSON.
use Rattle.std.specs.Prelude.{ℕ, Bool, false, List, [], ◌∷◌, codes, Option, None, Some}
use Rattle.serde_json.specs.Data.{Data, boolean, null}
use Rattle.idl_entity.specs.declared.kind.Kind.{Kind}
use Rattle.idl_entity.specs.declared.kind.Kind.TheVariants as kind
use Rattle.idl_repo.specs.Row.{direction_word, kind_word}
use Rattle.idl_repo.specs.declared.details.reference.Reference.{Reference}
use Rattle.idl_repo.specs.declared.details.row_tree.AttributeTree.{AttributeTree}
use Rattle.idl_repo.specs.declared.details.row_tree.ConstantTree.{ConstantTree}
use Rattle.idl_repo.specs.declared.details.row_tree.DeclaredType.{DeclaredType}
use Rattle.idl_repo.specs.declared.details.row_tree.OperationTree.{OperationTree}
use Rattle.idl_repo.specs.declared.details.row_tree.ParameterTree.{ParameterTree}
use Rattle.idl_repo.specs.declared.details.row_tree.RowDetails.{RowDetails}
use Rattle.idl_repo.specs.declared.details.row_tree.RowDetails.TheVariants as row
use Rattle.idl_repo.specs.declared.details.row_tree.RowTree.{RowTree}
use Rattle.idl_json.specs.Objects.{Field, list_json, object_of}
use Rattle.idl_json.specs.Text.{text_json, texts_json}
use Rattle.idl_json.specs.TypeCodes.{member_fields, type_code_json}
use Rattle.idl_json.specs.Types.{references_json, type_json}

-- the word of a row; what has no row has a word as well
abbrev pub kind_name : Kind → List ℕ
kind_name kind.Enumerator = codes "enumerator"
kind_name kind.Parameter = codes "parameter"
kind_name kind.Member = codes "member"
kind_name other = kind_word other

-- the bases, if there are any
abbrev pub bases_fields : List Reference → List Field
bases_fields [] = []
bases_fields (r ∷ rs) = (codes "bases", references_json (r ∷ rs)) ∷ []

abbrev pub declared_fields : DeclaredType → List Field
declared_fields t = (codes "type", type_code_json t.code) ∷ bases_fields t.bases

-- a value as it is listed; each constant has one
abbrev pub value_json : Option (List ℕ) → Data
value_json None = null
value_json (Some value) = text_json value

abbrev pub constant_fields : ConstantTree → List Field
constant_fields c = (codes "type", type_json c.data_type) ∷ (codes "value", value_json c.value) ∷ []

abbrev pub attribute_fields : AttributeTree → List Field
attribute_fields a =
    (codes "type", type_json a.data_type)
    ∷ (codes "readonly", boolean a.is_readonly)
    ∷ (codes "get", references_json a.raised)
    ∷ (codes "set", references_json a.raised_by_set) ∷ []

-- a parameter goes in or comes out, or both
abbrev pub direction_name : Bool → Bool → List ℕ
direction_name false false = codes "none"
direction_name goes_in comes_out = direction_word goes_in comes_out

abbrev pub parameter_json : ParameterTree → Data
parameter_json p = object_of (
    (codes "direction", text_json (direction_name p.goes_in p.comes_out)) ∷ member_fields p.member)

abbrev pub operation_fields : OperationTree → List Field
operation_fields o =
    (codes "type", type_json o.data_type)
    ∷ (codes "oneway", boolean o.is_oneway)
    ∷ (codes "parameters", list_json parameter_json o.parameters)
    ∷ (codes "raises", references_json o.raised)
    ∷ (codes "context", texts_json o.contexts) ∷ []

-- what a row tells behind its id
abbrev pub details_fields : RowDetails → List Field
details_fields row.Nothing = []
details_fields (row.Type t) = declared_fields t
details_fields (row.Constant c) = constant_fields c
details_fields (row.Attribute a) = attribute_fields a
details_fields (row.Operation o) = operation_fields o

-- the tree of a row
abbrev pub row_fields : RowTree → List Field
row_fields t =
    (codes "kind", text_json (kind_name t.kind))
    ∷ (codes "path", text_json t.path)
    ∷ (codes "id", text_json t.id) ∷ details_fields t.details

abbrev pub json_of : RowTree → Data
json_of t = object_of (row_fields t)
