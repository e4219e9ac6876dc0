-- TypeCodes in JSON.
use Rattle.std.specs.Prelude.{ℕ, List, [], ◌∷◌, ◌++◌, codes, Option, None, Some}
use Rattle.serde_json.specs.Data.{Data}
use Rattle.idl_repo.specs.details.Print.{code_word}
use Rattle.idl_repo.specs.declared.details.type_code_tree.CaseTree.{CaseTree}
use Rattle.idl_repo.specs.declared.details.type_code_tree.MemberTree.{MemberTree}
use Rattle.idl_repo.specs.declared.details.type_code_tree.TypeCodeParts.{TypeCodeParts}
use Rattle.idl_repo.specs.declared.details.type_code_tree.TypeCodeParts.TheVariants as parts
use Rattle.idl_repo.specs.declared.details.type_code_tree.TypeCodeTree.{TypeCodeTree}
use Rattle.idl_repo.specs.declared.details.type_code_tree.UnionTree.{UnionTree}
use Rattle.idl_json.specs.Objects.{Field, list_json, number_json, object_of}
use Rattle.idl_json.specs.Text.{text_json, texts_json}
use Rattle.idl_json.specs.Types.{type_json}

abbrev pub member_fields : MemberTree → List Field
member_fields m = (codes "name", text_json m.name) ∷ (codes "type", type_json m.data_type) ∷ []

abbrev pub member_json : MemberTree → Data
member_json m = object_of (member_fields m)

-- a union's label, and nothing of `default`
abbrev pub label_fields : Option (List ℕ) → List Field
label_fields None = []
label_fields (Some label) = (codes "label", text_json label) ∷ []

abbrev pub case_json : CaseTree → Data
case_json c = object_of (member_fields c.member ++ label_fields c.label)

-- the number of the case of `default`, if there is one
abbrev pub default_fields : Option ℕ → List Field
default_fields None = []
default_fields (Some n) = (codes "default", number_json n) ∷ []

abbrev pub union_fields : UnionTree → List Field
union_fields u =
    (codes "discriminator", type_json u.discriminator)
    ∷ (codes "cases", list_json case_json u.cases) ∷ default_fields u.default

-- what a TypeCode has behind its name
abbrev pub parts_fields : TypeCodeParts → List Field
parts_fields parts.ObjectReference = []
parts_fields parts.LocalInterface = []
parts_fields parts.Native = []
parts_fields (parts.Structure members) = (codes "members", list_json member_json members) ∷ []
parts_fields (parts.Exception members) = (codes "members", list_json member_json members) ∷ []
parts_fields (parts.Union u) = union_fields u
parts_fields (parts.Enumeration names) = (codes "members", texts_json names) ∷ []
parts_fields (parts.Alias t) = (codes "type", type_json t) ∷ []

abbrev pub type_code_json : TypeCodeTree → Data
type_code_json c = object_of (
    (codes "kind", text_json (code_word c.parts))
    ∷ (codes "id", text_json c.id) ∷ (codes "name", text_json c.name) ∷ parts_fields c.parts)
