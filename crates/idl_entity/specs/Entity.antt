-- What is known of a declared name, and when two entities are one.
use Rattle.std.specs.Prelude.{◌≡◌, ℕ, Bool, true, ◌&&◌, List, Option, if◌then◌else◌}
use Rattle.std.specs.Bool.{beq}
use Rattle.std.specs.Cmp.{IsEquivalence, IsPartialEquivalence, and_equiv, bool_eq_equiv, nat_eq_equiv, on_equiv, partial_equiv_from_equiv}
use Rattle.std.specs.Cmp.Lexicographic.{bytes_decides, lists_equiv, nat_list_eq_equiv, options_equiv, pointwise}
use Rattle.std.specs.Option.{option_eq}
use Rattle.std.specs.Str.{bytes_eq}
use Rattle.idl_base.specs.Exact.{both, same_bool, same_list, same_option}
use Rattle.idl_entity.specs.DataType.{data_type_eq, same_data_type}
use Rattle.idl_entity.specs.Path.{path_eq, same_path}
use Rattle.idl_entity.specs.Kind.{kind_eq, kind_number, same_kind, stage_eq, stage_number, same_stage}
use Rattle.idl_entity.specs.Signature.{same_signature, signature_eq}
use Rattle.idl_entity.specs.contracts.data_type.DataTypeEq.TheImpl.Laws.{laws-law as data_type_equiv}
use Rattle.idl_entity.specs.contracts.signature.SignatureEq.TheImpl.Laws.{laws-law as signature_equiv}
use Rattle.idl_entity.specs.declared.data_type.DataType.{DataType}
use Rattle.idl_entity.specs.declared.details.Rare.{Rare}
use Rattle.idl_entity.specs.declared.kind.Kind.{Kind}
use Rattle.idl_entity.specs.declared.kind.Kind.TheVariants.{Attribute, Operation}
use Rattle.idl_entity.specs.declared.kind.Stage.{Stage}
use Rattle.idl_entity.specs.declared.signature.Signature.{Signature}
use Rattle.idl_value.specs.Equal.{value_eq}
use Rattle.idl_value.specs.Exact.{same_value}
use Rattle.idl_value.specs.contracts.value.ValueEq.TheImpl.Laws.{laws-law as value_equiv}
use Rattle.idl_value.specs.declared.value.Value.{Value}

-- what is known of a declared name
pub record Entity : Type 0 where
  -- its name as it is spelled, in the scope in which it is declared
  pub path : List (List ℕ)
  pub kind : Kind
  pub is_local : Bool
  pub is_readonly : Bool
  pub is_oneway : Bool
  pub stage : Stage
  pub data_type : Option DataType
  -- the paths of the direct bases, in order
  pub bases : List (List (List ℕ))
  -- the paths of the operations and attributes of a closed interface
  pub operations : List (List (List ℕ))
  pub value : Option Value
  -- the names of the enumerators of an enum, in order
  pub enumerators : List (List ℕ)
  pub signature : Option Signature

-- what few have of it
abbrev pub rare_of : Entity → Rare
rare_of e = record {
  bases = e.bases;
  operations = e.operations;
  value = e.value;
  enumerators = e.enumerators;
  signature = e.signature;
}

-- whether what two entities are declared with is one
abbrev pub declared_eq : Entity → Entity → Bool
declared_eq e f =
    option_eq data_type_eq e.data_type f.data_type
    && (pointwise path_eq e.bases f.bases
    && (pointwise path_eq e.operations f.operations
    && (option_eq value_eq e.value f.value
    && (pointwise bytes_eq e.enumerators f.enumerators
    && option_eq signature_eq e.signature f.signature))))

-- whether two entities are one but for their paths
abbrev pub pathless_eq : Entity → Entity → Bool
pathless_eq e f =
    kind_eq e.kind f.kind
    && (beq e.is_local f.is_local
    && (beq e.is_readonly f.is_readonly
    && (beq e.is_oneway f.is_oneway
    && (stage_eq e.stage f.stage && declared_eq e f))))

-- whether two entities are one, by what is known of them
abbrev pub entity_eq : Entity → Entity → Bool
entity_eq e f = path_eq e.path f.path && pathless_eq e f

paths_equiv : IsEquivalence (pointwise path_eq)
paths_equiv = lists_equiv (lists_equiv nat_list_eq_equiv)

pub entity_equiv : IsEquivalence entity_eq
entity_equiv =
    and_equiv (on_equiv (λ (e : Entity). e.path) (lists_equiv nat_list_eq_equiv))
    (and_equiv (on_equiv (λ (e : Entity). kind_number e.kind) nat_eq_equiv)
    (and_equiv (on_equiv (λ (e : Entity). e.is_local) bool_eq_equiv)
    (and_equiv (on_equiv (λ (e : Entity). e.is_readonly) bool_eq_equiv)
    (and_equiv (on_equiv (λ (e : Entity). e.is_oneway) bool_eq_equiv)
    (and_equiv (on_equiv (λ (e : Entity). stage_number e.stage) nat_eq_equiv)
    (and_equiv (on_equiv (λ (e : Entity). e.data_type) (options_equiv data_type_equiv))
    (and_equiv (on_equiv (λ (e : Entity). e.bases) paths_equiv)
    (and_equiv (on_equiv (λ (e : Entity). e.operations) paths_equiv)
    (and_equiv (on_equiv (λ (e : Entity). e.value) (options_equiv value_equiv))
    (and_equiv (on_equiv (λ (e : Entity). e.enumerators) (lists_equiv nat_list_eq_equiv))
    (on_equiv (λ (e : Entity). e.signature) (options_equiv signature_equiv))))))))))))

pub entity_per : IsPartialEquivalence entity_eq
entity_per = partial_equiv_from_equiv entity_equiv

-- entities that are found equal are one
pub same_entity : (e f : Entity) → entity_eq e f ≡ true → e ≡ f
same_entity e f h =
    let a = both _ _ h in
    let b = both _ _ a.1 in
    let c = both _ _ b.1 in
    let d = both _ _ c.1 in
    let g = both _ _ d.1 in
    let j = both _ _ g.1 in
    let k = both _ _ j.1 in
    let l = both _ _ k.1 in
    let m = both _ _ l.1 in
    let n = both _ _ m.1 in
    let o = both _ _ n.1 in
    let path = same_path e.path f.path a.0 in
    let kind = same_kind e.kind f.kind b.0 in
    let local = same_bool e.is_local f.is_local c.0 in
    let readonly = same_bool e.is_readonly f.is_readonly d.0 in
    let oneway = same_bool e.is_oneway f.is_oneway g.0 in
    let stage = same_stage e.stage f.stage j.0 in
    let data_type = same_option data_type_eq same_data_type e.data_type f.data_type k.0 in
    let bases = same_list path_eq same_path e.bases f.bases l.0 in
    let operations = same_list path_eq same_path e.operations f.operations m.0 in
    let value = same_option value_eq same_value e.value f.value n.0 in
    let enumerators =
    same_list bytes_eq (λ x y. (bytes_decides x y).0) e.enumerators f.enumerators o.0
    in
    let signature = same_option signature_eq same_signature e.signature f.signature o.1 in
    λ i. record {
      path = path i;
      kind = kind i;
      is_local = local i;
      is_readonly = readonly i;
      is_oneway = oneway i;
      stage = stage i;
      data_type = data_type i;
      bases = bases i;
      operations = operations i;
      value = value i;
      enumerators = enumerators i;
      signature = signature i;
    }

-- whether an entity is an operation or an attribute
abbrev pub is_operation : Entity → Bool
is_operation e = if kind_eq e.kind Operation then true else kind_eq e.kind Attribute
