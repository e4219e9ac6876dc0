-- Rows and TypeCodes have a line for each form.
use Rattle.std.proofs.Common.{◌≡◌, ◌∙◌, ◌+◌, ◌++◌, [], ◌∷◌, Bool, List, None, Option, Some, ap, codes, decimal, false, flat_map, is_none, position, refl, reverse, sym, true, ℕ}
use Rattle.std.proofs.lemmas.Iterator.Adapters.{position_from-zero}
use Rattle.std.specs.List.{position_from}
use Rattle.std.specs.Option.{option_map, unwrap_or}
use Rattle.std.specs.Prelude.{if◌then◌else◌}
use Rattle.idl_entity.specs.declared.data_type.DataType.{DataType}
use Rattle.idl_entity.specs.declared.data_type.Element.{Element}
use Rattle.idl_entity.specs.declared.data_type.Element.TheVariants.{Constants, Named, Unvalued}
use Rattle.idl_entity.specs.declared.data_type.Layer.{Layer}
use Rattle.idl_entity.specs.declared.data_type.Layer.TheVariants.{Array, Sequence}
use Rattle.idl_entity.specs.declared.entity.Entity.{Entity}
use Rattle.idl_entity.specs.declared.kind.Kind.{Kind}
use Rattle.idl_entity.specs.declared.kind.Kind.TheVariants as kind
use Rattle.idl_entity.specs.declared.signature.Member.{Member}
use Rattle.idl_entity.specs.declared.unvalued.Unvalued.TheVariants as unvalued
use Rattle.idl_env.specs.Facts.{entity_in, entity_key}
use Rattle.idl_memo.specs.Query.{Ask, Done, and_then}
use Rattle.idl_plain.proofs.OutwardLaws.{layers-told}
use Rattle.idl_plain.proofs.TableLaws.{integers-told}
use Rattle.idl_plain.specs.Rows.{code_row, element_row, entries_row, kind_row, layer_row, member_row, parameter_row, references, type_row}
use Rattle.idl_repo.specs.Entry.{closing_fault, entry, entry_in}
use Rattle.idl_repo.specs.Pieces.{IdOf, Pieces, Says, commas, says, with_commas, written}
use Rattle.idl_repo.specs.Row.{base_pieces, behind_id, direction_word, flag, kind_word, parameter_pieces, path_text, row_pieces, value_pieces}
use Rattle.idl_repo.specs.TypeCode.{default_at, default_word, element_pieces, entries_of, interface_head, label_word, layer_end, layer_word, layers_begin, shown, type_pieces, typed_pieces}
use Rattle.idl_repo.specs.declared.entry.Entry.{Entry}
use Rattle.idl_scope.specs.Lookup.{Lookup}
use Rattle.idl_value.specs.Spelled.{value_word}
use Rattle.idl_value.specs.declared.constant_type.ConstantType.TheVariants as target
use Rattle.idl_value.specs.declared.value.Value.{Value}
use Rattle.idl_value.specs.declared.value.Value.TheVariants.{Text}

-- ---- types

element-told : (e : Element) → element_pieces e ≡ element_row e
element-told (Constants (target.Integer k)) = λ i. says ((integers-told k).0 i)
element-told (Constants target.Boolean) = refl
element-told (Constants target.Character) = refl
element-told (Constants target.WideCharacter) = refl
element-told (Constants (target.Text None)) = refl
element-told (Constants (target.Text (Some n))) = refl
element-told (Constants (target.WideText None)) = refl
element-told (Constants (target.WideText (Some n))) = refl
element-told (Constants (target.Enumeration path)) = refl
element-told (Named path) = refl
element-told (Unvalued unvalued.Float) = refl
element-told (Unvalued unvalued.Double) = refl
element-told (Unvalued unvalued.LongDouble) = refl
element-told (Unvalued unvalued.Any) = refl
element-told (Unvalued unvalued.Object) = refl

begins-told : (layer : Layer) → layer_word layer ≡ (layer_row layer).0
begins-told (Sequence bound) = refl
begins-told (Array length) = refl

ends-told : (layer : Layer) → layer_end layer ≡ codes "," ++ (decimal (layer_row layer).1 ++ codes ")")
ends-told (Sequence bound) = refl
ends-told (Array length) = refl

layers-begin : (layers : List Layer) → layers_begin layers ≡ flat_map (λ layer. (layer_row layer).0) (reverse layers)
layers-begin layers = layers-told layers ∙ (λ i. flat_map (λ (layer : Layer). begins-told layer i) (reverse layers))

type-told : (t : Option DataType) → type_pieces t ≡ type_row t
type-told None = refl
type-told (Some t) = λ i.
    Says (layers-begin t.layers i)
    ∷ (element-told t.element i ++ says (flat_map (λ (layer : Layer). ends-told layer i) t.layers))

member-told : (m : Member) → typed_pieces m ≡ member_row m
member-told m = λ i. Says m.name ∷ Says (codes ":") ∷ type-told m.data_type i

-- ---- labels

default-from : (n : ℕ) (labels : List (Option Value)) → default_at n labels ≡ position_from is_none n labels
default-from n [] = refl
default-from n (None ∷ labels) = refl
default-from n (Some v ∷ labels) = default-from (n + 1) labels

abbrev default_row : Option ℕ → List ℕ
default_row o = unwrap_or (option_map decimal o) (codes "-1")

default-word : (o : Option ℕ) → default_word o ≡ default_row o
default-word None = refl
default-word (Some n) = refl

default-told : (labels : List (Option Value)) → default_word (default_at 0 labels) ≡ default_row (position is_none labels)
default-told labels =
    default-word (default_at 0 labels)
    ∙ ap default_row (default-from 0 labels ∙ sym (position_from-zero is_none labels))

labels-told : (members : List Member) → entries_of members ≡ entries_row members
labels-told members = λ i.
    Says (codes ",") ∷ Says (default-told (flat_map (λ (m : Member). m.labels) members) i)
    ∷ flat_map (λ (m : Member). flat_map (λ (label : Option Value). Says (codes ",") ∷ Says (label_word label) ∷ Says (codes ":") ∷ member-told m i) m.labels) members

-- ---- rows

flag-told : (b : Bool) (word : List ℕ) → flag b word ≡ (if b then word else codes " ")
flag-told true word = refl
flag-told false word = refl

head-told : (b : Bool) → interface_head b ≡ (if b then codes " tk_local_interface(" else codes " tk_objref(")
head-told true = refl
head-told false = refl

direction-told : (goes_in comes_out : Bool) → direction_word goes_in comes_out ≡ (let out = if goes_in then codes "inout" else codes "out" in if comes_out then out else codes "in")
direction-told true true = refl
direction-told false true = refl
direction-told true false = refl
direction-told false false = refl

parameter-told : (m : Member) → parameter_pieces m ≡ parameter_row m
parameter-told m = λ i. Says (direction-told m.goes_in m.comes_out i) ∷ Says (codes " ") ∷ member-told m i

abbrev base_row : List (List (List ℕ)) → Pieces
base_row paths = elim paths [
  | [] ↦ []
  | path ∷ paths ↦ Says (codes " base(") ∷ (references (path ∷ paths) ++ says (codes ")"))
]

base-told : (paths : List (List (List ℕ))) → base_pieces paths ≡ base_row paths
base-told [] = refl
base-told (path ∷ paths) = refl

module _ (e : Entity) where
  kind-told : (k : Kind) → (kind_word k, behind_id k e) ≡ kind_row e (shown e) k
  kind-told kind.Module = refl
  kind-told kind.Interface = λ i. (
    codes "interface",
    code_row (head-told e.is_local i) e [] ++ Says (codes " bases(") ∷ (references e.bases ++ says (codes ")")),
  )
  kind-told kind.Structure = λ i. (
    codes "struct",
    code_row (codes " tk_struct(") e (flat_map (λ (m : Member). Says (codes ",") ∷ member-told m i) (shown e).members) ++ base-told e.bases i,
  )
  kind-told kind.Union = λ i. (
    codes "union",
    code_row (codes " tk_union(") e ((Says (codes ",") ∷ type-told e.data_type i) ++ labels-told (shown e).members i),
  )
  kind-told kind.Exception = λ i. (
    codes "exception",
    code_row (codes " tk_except(") e (flat_map (λ (m : Member). Says (codes ",") ∷ member-told m i) (shown e).members),
  )
  kind-told kind.Enumeration = refl
  kind-told kind.Alias = λ i. (codes "alias", code_row (codes " tk_alias(") e (Says (codes ",") ∷ type-told e.data_type i))
  kind-told kind.Native = refl
  kind-told kind.Constant = λ i. (
    codes "const",
    Says (codes " ") ∷ (type-told e.data_type i ++ Says (codes " ") ∷ value_pieces e),
  )
  kind-told kind.Attribute = λ i. (
    codes "attribute",
    Says (flag-told e.is_readonly (codes " readonly ") i)
        ∷ (type-told e.data_type i
        ++ Says (codes " get(") ∷ (references (shown e).raised
        ++ Says (codes ") set(") ∷ (references (shown e).raised_by_set ++ says (codes ")")))),
  )
  kind-told kind.Operation = λ i. (
    codes "operation",
    Says (flag-told e.is_oneway (codes " oneway ") i)
        ∷ (type-told e.data_type i
        ++ Says (codes " (") ∷ (commas (λ (m : Member). parameter-told m i) (shown e).members
        ++ Says (codes ") raises(") ∷ (references (shown e).raised
        ++ Says (codes ") context(") ∷ Says (with_commas (λ (text : List ℕ). value_word (Text text)) (shown e).contexts) ∷ says (codes ")")))),
  )
  kind-told k = refl

  pub rows-told : row_pieces e ≡ (let row = kind_row e (shown e) e.kind in
      Says row.0 ∷ Says (codes " ") ∷ Says (path_text e.path) ∷ Says (codes " ") ∷ IdOf e.path ∷ row.1)
  rows-told = λ i. Says (kind-told e.kind i).0 ∷ Says (codes " ") ∷ Says (path_text e.path) ∷ Says (codes " ") ∷ IdOf e.path ∷ (kind-told e.kind i).1

-- ---- entries

abbrev entry_by : Option Entity → Lookup Entry
entry_by o = elim o [
  | None ↦ Done (record { row = None; fault = None })
  | Some e ↦ and_then (written [] (row_pieces e)) (λ text. Done (record { row = Some text; fault = closing_fault e }))
]

entry-told : (o : Option Entity) → entry_in o ≡ entry_by o
entry-told None = refl
entry-told (Some e) = refl

pub entries-told : (path : List (List ℕ)) → entry path ≡ Ask (entity_key path) (λ there. entry_by (entity_in there))
unfolding entry
entries-told path = λ i. Ask (entity_key path) (λ there. entry-told (entity_in there) i)
