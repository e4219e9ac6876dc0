-- The trees that JSON stands for: a reader, by which nothing of a tree is lost.
use Rattle.std.specs.Prelude.{ℕ, zero, suc, Bool, true, false, List, [], ◌∷◌, ◌++◌, codes, map, reverse, Option, None, Some, option_and_then, option_map, if◌then◌else◌}
use Rattle.std.specs.Str.{bytes_eq, chars}
use Rattle.serde_json.specs.Data.{Data, null, boolean, number, string, array, object, unsigned, Items, no_items, item, Members, no_members, member}
use Rattle.serde_json.specs.Find.{as_array, as_bool, as_number, as_str, as_u64, get}
use Rattle.idl_entity.specs.declared.data_type.Layer.{Layer}
use Rattle.idl_entity.specs.declared.data_type.Layer.TheVariants.{Sequence, Array}
use Rattle.idl_entity.specs.declared.kind.Kind.{Kind}
use Rattle.idl_entity.specs.declared.kind.Kind.TheVariants as kind
use Rattle.idl_entity.specs.declared.unvalued.Unvalued.{Unvalued}
use Rattle.idl_entity.specs.declared.unvalued.Unvalued.TheVariants as unvalued
use Rattle.idl_value.specs.declared.integer.IntegerKind.{IntegerKind}
use Rattle.idl_value.specs.declared.integer.IntegerKind.TheVariants as integer
use Rattle.idl_value.specs.declared.constant_type.ConstantType.TheVariants as target
use Rattle.idl_repo.specs.declared.details.reference.Reference.{Reference}
use Rattle.idl_repo.specs.declared.details.row_tree.AttributeTree.{AttributeTree}
use Rattle.idl_repo.specs.declared.details.row_tree.ConstantTree.{ConstantTree}
use Rattle.idl_repo.specs.declared.details.row_tree.DeclaredType.{DeclaredType}
use Rattle.idl_repo.specs.declared.details.row_tree.OperationTree.{OperationTree}
use Rattle.idl_repo.specs.declared.details.row_tree.ParameterTree.{ParameterTree}
use Rattle.idl_repo.specs.declared.details.row_tree.RowDetails.{RowDetails}
use Rattle.idl_repo.specs.declared.details.row_tree.RowDetails.TheVariants as row
use Rattle.idl_repo.specs.declared.details.row_tree.RowTree.{RowTree}
use Rattle.idl_repo.specs.declared.details.type_code_tree.CaseTree.{CaseTree}
use Rattle.idl_repo.specs.declared.details.type_code_tree.MemberTree.{MemberTree}
use Rattle.idl_repo.specs.declared.details.type_code_tree.TypeCodeParts.{TypeCodeParts}
use Rattle.idl_repo.specs.declared.details.type_code_tree.TypeCodeParts.TheVariants as parts
use Rattle.idl_repo.specs.declared.details.type_code_tree.TypeCodeTree.{TypeCodeTree}
use Rattle.idl_repo.specs.declared.details.type_code_tree.UnionTree.{UnionTree}
use Rattle.idl_repo.specs.declared.details.type_tree.ElementTree.{ElementTree}
use Rattle.idl_repo.specs.declared.details.type_tree.ElementTree.TheVariants as tree
use Rattle.idl_repo.specs.declared.details.type_tree.LayeredType.{LayeredType}
use Rattle.idl_repo.specs.TypeCode.{integer_word, unvalued_word}
use Rattle.idl_json.specs.Rows.{kind_name}

-- ---- texts, numbers, lists and members

abbrev pub text_of : Data → Option (List ℕ)
text_of json = option_map chars (as_str json)

abbrev pub number_of : Data → Option ℕ
number_of json = option_and_then as_u64 (as_number json)

-- what is made of two, or of three, that are there
abbrev pub both : {A B C : Type 0} → (A → B → C) → Option A → Option B → Option C
both f a b = option_and_then (λ x. option_map (f x) b) a

abbrev pub all_three : {A B C D : Type 0} → (A → B → C → D)
    → Option A → Option B → Option C → Option D
all_three f a b c = option_and_then (λ x. both (f x) b c) a

abbrev pub items_read : {X : Type 0} → (Data → Option X) → Items → Option (List X)
items_read read no_items = Some []
items_read read (item json items) = both (λ x xs. x ∷ xs) (read json) (items_read read items)

abbrev pub list_of : {X : Type 0} → (Data → Option X) → Data → Option (List X)
list_of read json = option_and_then (items_read read) (as_array json)

abbrev pub texts_of : Data → Option (List (List ℕ))
texts_of = list_of text_of

-- what a member stands for; and nothing, where one may be left out
abbrev pub field : {X : Type 0} → List ℕ → (Data → Option X) → Data → Option X
field key read json = option_and_then read (get key json)

abbrev pub read_there : {X : Type 0} → (Data → Option X) → Option Data → Option (Option X)
read_there read None = Some None
read_there read (Some json) = option_map (λ x. Some x) (read json)

abbrev pub optional : {X : Type 0} → List ℕ → (Data → Option X) → Data → Option (Option X)
optional key read json = read_there read (get key json)

-- what a word stands for
abbrev pub found_in : {X : Type 0} → List (List ℕ × X) → List ℕ → Option X
found_in [] word = None
found_in (entry ∷ entries) word =
    if bytes_eq word entry.0 then Some entry.1 else found_in entries word

abbrev pub kind_in : Data → Option (List ℕ)
kind_in json = field (codes "kind") text_of json

-- ---- types

abbrev pub reference_of : Data → Option Reference
reference_of json =
    both (λ id path. record { id = id; path = path })
    (field (codes "ref") text_of json) (field (codes "path") text_of json)

abbrev pub references_of : Data → Option (List Reference)
references_of = list_of reference_of

abbrev pub integer_entry : IntegerKind → List ℕ × ElementTree
integer_entry k = (integer_word k, tree.Constants (target.Integer k))

abbrev pub unvalued_entry : Unvalued → List ℕ × ElementTree
unvalued_entry u = (unvalued_word u, tree.Unvalued u)

-- the types of which the word tells all, and `Object`
abbrev pub element_words : List (List ℕ × ElementTree)
element_words =
    (codes "tk_void", tree.Void)
    ∷ (codes "tk_boolean", tree.Constants target.Boolean)
    ∷ (codes "tk_char", tree.Constants target.Character)
    ∷ (codes "tk_wchar", tree.Constants target.WideCharacter)
    ∷ (codes "tk_objref", tree.Unvalued unvalued.Object)
    ∷ integer_entry integer.Octet ∷ integer_entry integer.Int8 ∷ integer_entry integer.Uint8
    ∷ integer_entry integer.Short ∷ integer_entry integer.UnsignedShort
    ∷ integer_entry integer.Long ∷ integer_entry integer.UnsignedLong
    ∷ integer_entry integer.LongLong ∷ integer_entry integer.UnsignedLongLong
    ∷ unvalued_entry unvalued.Float ∷ unvalued_entry unvalued.Double
    ∷ unvalued_entry unvalued.LongDouble ∷ unvalued_entry unvalued.Any ∷ []

abbrev pub bound_of : Data → Option (Option ℕ)
bound_of null = Some (Some 0)
bound_of (number (unsigned zero)) = Some None
bound_of (number (unsigned (suc n))) = Some (Some (suc n))
bound_of other = None

-- the types that have more
abbrev pub element_with : Data → List (List ℕ × Option ElementTree)
element_with json = (
  codes "tk_string",
  option_map (λ b. tree.Constants (target.Text b)) (field (codes "bound") bound_of json),
)
    ∷ (
      codes "tk_wstring",
      option_map (λ b. tree.Constants (target.WideText b)) (field (codes "bound") bound_of json),
    )
    ∷ (
      codes "tk_enum",
      option_map (λ p. tree.Constants (target.Enumeration p)) (field (codes "names") texts_of json),
    )
    ∷ []

abbrev pub element_of_word : Data → List ℕ → Option ElementTree
element_of_word json word =
    elim (found_in element_words word) [
      | Some element ↦ Some element
      | None ↦ option_and_then (λ element. element) (found_in (element_with json) word)
    ]

abbrev pub element_of : Data → Option ElementTree
element_of json =
    elim (get (codes "ref") json) [
      | Some id ↦ option_map (λ r. tree.Named r) (reference_of json)
      | None ↦ option_and_then (element_of_word json) (kind_in json)
    ]

-- the layers that an object tells, the innermost first
abbrev pub layers_of : Data → Option (List Layer)
layers_of json =
    elim (get (codes "lengths") json) [
      | Some lengths ↦
          option_map (λ ns. map (λ n. Array n) (reverse ns)) (list_of number_of lengths)
      | None ↦ option_map (λ n. Sequence n ∷ []) (field (codes "bound") number_of json)
    ]

-- a type with such layers around it
abbrev pub around : LayeredType → List Layer → LayeredType
around t layers = record { element = t.element; layers = t.layers ++ layers }

abbrev pub plain : ElementTree → LayeredType
plain element = record { element = element; layers = [] }

-- a type, by that of its element if it has one
abbrev pub type_by : Data → Option LayeredType → Option LayeredType
type_by json (Some t) = option_map (around t) (layers_of json)
type_by json None = option_map plain (element_of json)

abbrev mutual
  pub type_of : Data → Option LayeredType
  type_of null = None
  type_of (boolean b) = None
  type_of (number n) = None
  type_of (string text) = None
  type_of (array items) = None
  type_of (object members) = type_by (object members) (inner_type members)

  pub inner_type : Members → Option LayeredType
  inner_type no_members = None
  inner_type (member key json members) =
      if bytes_eq key (codes "element") then type_of json else inner_type members

-- ---- TypeCodes

abbrev pub member_of : Data → Option MemberTree
member_of json =
    both (λ name t. record { name = name; data_type = t })
    (field (codes "name") text_of json) (field (codes "type") type_of json)

abbrev pub members_of : Data → Option (List MemberTree)
members_of json = field (codes "members") (list_of member_of) json

abbrev pub case_of : Data → Option CaseTree
case_of json =
    both (λ label m. record { label = label; member = m })
    (optional (codes "label") text_of json) (member_of json)

abbrev pub union_of : Data → Option UnionTree
union_of json =
    all_three (λ t n cases. record { discriminator = t; default = n; cases = cases })
    (field (codes "discriminator") type_of json) (optional (codes "default") number_of json)
    (field (codes "cases") (list_of case_of) json)

-- what stands behind each word
abbrev pub parts_with : Data → List (List ℕ × Option TypeCodeParts)
parts_with json =
    (codes "tk_objref", Some parts.ObjectReference)
    ∷ (codes "tk_local_interface", Some parts.LocalInterface)
    ∷ (codes "tk_native", Some parts.Native)
    ∷ (codes "tk_struct", option_map (λ ms. parts.Structure ms) (members_of json))
    ∷ (codes "tk_except", option_map (λ ms. parts.Exception ms) (members_of json))
    ∷ (codes "tk_union", option_map (λ u. parts.Union u) (union_of json))
    ∷ (
      codes "tk_enum",
      option_map (λ names. parts.Enumeration names) (field (codes "members") texts_of json),
    )
    ∷ (codes "tk_alias", option_map (λ t. parts.Alias t) (field (codes "type") type_of json)) ∷ []

abbrev pub parts_of : Data → Option TypeCodeParts
parts_of json =
    option_and_then (λ word. option_and_then (λ found. found) (found_in (parts_with json) word))
    (kind_in json)

abbrev pub type_code_of : Data → Option TypeCodeTree
type_code_of json =
    all_three (λ id name ps. record { id = id; name = name; parts = ps })
    (field (codes "id") text_of json) (field (codes "name") text_of json) (parts_of json)

-- ---- rows

abbrev pub kind_entry : Kind → List ℕ × Kind
kind_entry k = (kind_name k, k)

abbrev pub kind_words : List (List ℕ × Kind)
kind_words =
    kind_entry kind.Module ∷ kind_entry kind.Interface ∷ kind_entry kind.Structure
    ∷ kind_entry kind.Union ∷ kind_entry kind.Exception ∷ kind_entry kind.Enumeration
    ∷ kind_entry kind.Enumerator ∷ kind_entry kind.Alias ∷ kind_entry kind.Native
    ∷ kind_entry kind.Constant ∷ kind_entry kind.Attribute ∷ kind_entry kind.Operation
    ∷ kind_entry kind.Parameter ∷ kind_entry kind.Member ∷ []

abbrev pub kind_of : Data → Option Kind
kind_of json = option_and_then (found_in kind_words) (kind_in json)

-- the references at a key, which is left out where there are none
abbrev pub references_at : List ℕ → Data → Option (List Reference)
references_at key json = elim (get key json) [ None ↦ Some [] | Some rs ↦ references_of rs ]

abbrev pub declared_of : Data → Option DeclaredType
declared_of json =
    both (λ c rs. record { code = c; bases = rs })
    (field (codes "type") type_code_of json) (references_at (codes "bases") json)

abbrev pub value_of : Data → Option (Option (List ℕ))
value_of null = Some None
value_of other = option_map (λ text. Some text) (text_of other)

abbrev pub constant_of : Data → Option ConstantTree
constant_of json =
    both (λ t v. record { data_type = t; value = v })
    (field (codes "type") type_of json) (field (codes "value") value_of json)

-- what two are together
abbrev pub pair : {A B : Type 0} → A → B → A × B
pair a b = (a, b)

abbrev pub attribute_from : Bool → LayeredType → (List Reference × List Reference) → AttributeTree
attribute_from is_readonly t raised = record {
  is_readonly = is_readonly;
  data_type = t;
  raised = raised.0;
  raised_by_set = raised.1;
}

abbrev pub attribute_of : Data → Option AttributeTree
attribute_of json =
    all_three attribute_from (field (codes "readonly") as_bool json)
    (field (codes "type") type_of json)
    (both pair (field (codes "get") references_of json) (field (codes "set") references_of json))

-- whether a parameter goes in, and whether it comes out
abbrev pub directions : List (List ℕ × (Bool × Bool))
directions =
    (codes "in", (true, false)) ∷ (codes "out", (false, true)) ∷ (codes "inout", (true, true))
    ∷ (codes "none", (false, false)) ∷ []

abbrev pub direction_of : Data → Option (Bool × Bool)
direction_of json = option_and_then (found_in directions) (text_of json)

abbrev pub parameter_of : Data → Option ParameterTree
parameter_of json =
    both (λ (goes : Bool × Bool) m. record { goes_in = goes.0; comes_out = goes.1; member = m })
    (field (codes "direction") direction_of json) (member_of json)

abbrev pub Told : Type 0
Told = List ParameterTree × (List Reference × List (List ℕ))

abbrev pub told_of : Data → Option Told
told_of json =
    both pair (field (codes "parameters") (list_of parameter_of) json)
    (both pair (field (codes "raises") references_of json) (field (codes "context") texts_of json))

abbrev pub operation_from : Bool → LayeredType → Told → OperationTree
operation_from is_oneway t told = record {
  is_oneway = is_oneway;
  data_type = t;
  parameters = told.0;
  raised = told.1.0;
  contexts = told.1.1;
}

abbrev pub operation_of : Data → Option OperationTree
operation_of json =
    all_three operation_from (field (codes "oneway") as_bool json)
    (field (codes "type") type_of json) (told_of json)

-- what is told behind an id, by a member that no other has
abbrev pub typed_details : Data → Option RowDetails
typed_details json =
    elim (get (codes "type") json) [
      | None ↦ Some row.Nothing
      | Some c ↦ option_map (λ t. row.Type t) (declared_of json)
    ]

abbrev pub valued_details : Data → Option RowDetails
valued_details json =
    elim (get (codes "value") json) [
      | None ↦ typed_details json
      | Some v ↦ option_map (λ c. row.Constant c) (constant_of json)
    ]

abbrev pub got_details : Data → Option RowDetails
got_details json =
    elim (get (codes "get") json) [
      | None ↦ valued_details json
      | Some rs ↦ option_map (λ a. row.Attribute a) (attribute_of json)
    ]

abbrev pub details_of : Data → Option RowDetails
details_of json =
    elim (get (codes "parameters") json) [
      | None ↦ got_details json
      | Some ps ↦ option_map (λ o. row.Operation o) (operation_of json)
    ]

abbrev pub tree_from : Kind → List ℕ → (List ℕ × RowDetails) → RowTree
tree_from k path told =
    record { kind = k; path = path; id = told.0; details = told.1 }

-- the tree of a row
abbrev pub tree_of : Data → Option RowTree
tree_of json =
    all_three tree_from (kind_of json) (field (codes "path") text_of json)
    (both pair (field (codes "id") text_of json) (details_of json))
