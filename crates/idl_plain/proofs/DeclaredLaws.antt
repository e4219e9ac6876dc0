-- What a declared name comes to, and the ranges of integers.
use Rattle.std.proofs.Common.{◌≡◌, ◌+◌, ◌++◌, ◌-◌, ◌^◌, ◌&&◌, ◌||◌, [], ◌∷◌, Bool, Err, List, None, Ok, Option, Some, ap, cond, false, filter, fold, is_none, map, max, refl, true, ℤ, neg_ℤ, pos}
use Rattle.std.specs.Option.{option_to_list}
use Rattle.std.specs.Prelude.{if◌then◌else◌, int_le}
use Rattle.idl_check.specs.ids.Identifying.{with_identity}
use Rattle.idl_check.specs.tables.Codes.{faults_by}
use Rattle.idl_check.specs.tables.Declaring.{with_declared, written_after}
use Rattle.idl_check.specs.tables.Rules.{is_there, may_follow}
use Rattle.idl_check.specs.told.Bodies.{Body, comes_out, goes_in, with_innermost, with_member}
use Rattle.idl_check.specs.walk.Walk.{Walk, declared_visit, is_begun}
use Rattle.idl_check.specs.declared.ids.identifying.Ids.{Ids}
use Rattle.idl_check.specs.declared.tables.standing.Standing.{Standing}
use Rattle.idl_entity.specs.Kind.{kind_eq, stage_eq}
use Rattle.idl_entity.specs.Path.{name_of}
use Rattle.idl_entity.specs.declared.entity.Entity.{Entity}
use Rattle.idl_entity.specs.declared.kind.Kind.TheVariants.{Constant, Interface, Member as MemberKind, Module, Parameter}
use Rattle.idl_entity.specs.declared.kind.Stage.TheVariants.{Ahead, Begun}
use Rattle.idl_env.specs.Facts.{with_addition}
use Rattle.idl_env.specs.declared.additions.addition.Addition.{Addition}
use Rattle.idl_env.specs.declared.additions.addition.Addition.TheVariants.{Appears, Declares}
use Rattle.idl_env.specs.declared.answering.answer.Scope.{Scope}
use Rattle.idl_parts.specs.declared.part.Declaration.{Declaration}
use Rattle.idl_parts.specs.declared.part.Declaration.TheVariants as way
use Rattle.idl_plain.specs.Declared.{declared_in, directions, rules_of_declared}
use Rattle.idl_tree.specs.declared.declarations.operation.Direction.TheVariants.{In, InOut, Out}
use Rattle.idl_value.specs.Operate.{in_parts}
use Rattle.idl_value.specs.integers.Integer.{holds, is_signed, is_within, power, width}
use Rattle.idl_value.specs.declared.integer.IntegerKind.{IntegerKind}
use Rattle.idl_value.specs.declared.outcome.ValueCode.TheVariants.{OutOfRange}

-- ---- declared names

module _ (e : Entity) (own : List Addition) where
  abbrev identified : Option Entity → Option Ids → List Addition
  identified there ids = fold with_addition own (map (λ (i : Ids). Appears e.path i.prefix) (if is_none there then option_to_list ids else []))

  identity-told : (there : Option Entity) (ids : Option Ids) → with_identity there ids e own ≡ identified there ids
  identity-told None None = refl
  identity-told None (Some ids) = refl
  identity-told (Some old) ids = refl

  own-told : (standing : Standing) → with_declared standing e own ≡ declared_in standing e own
  own-told standing =
      ap (λ (l : List Addition). if is_there standing.there (λ old. may_follow old e && (kind_eq e.kind Module || stage_eq e.stage Ahead)) then l else with_addition l (Declares e))
      (identity-told standing.there standing.ids)

begun-told : (e : Entity) (b : Bool) → (if b then e ∷ [] else []) ≡ cond b (e ∷ []) []
begun-told e true = refl
begun-told e false = refl

pub visit-told : (w : Walk) (way : Declaration) (s : Scope) (e : Entity) (standing : Standing) → declared_visit w way s e standing ≡ record {
  faults = faults_by w.at (rules_of_declared s standing e);
  after = record w {
    at = w.at + 1;
    own = declared_in standing e w.own;
    begun = w.begun ++ filter (λ (e : Entity). stage_eq e.stage Begun && (kind_eq e.kind Interface || kind_eq e.kind Constant)) (e ∷ []);
    written = written_after w.written e;
    last = Some e;
    bodies = with_member way e w.bodies;
  };
}
visit-told w way s e standing = λ i. record {
  faults = faults_by w.at (rules_of_declared s standing e);
  after = record w {
    at = w.at + 1;
    own = own-told e w.own standing i;
    begun = w.begun ++ begun-told e (is_begun e) i;
    written = written_after w.written e;
    last = Some e;
    bodies = with_member way e w.bodies;
  };
}

-- ---- members

in-told : (way : Declaration) → goes_in way ≡ (directions way).0
in-told (way.Parameter In) = refl
in-told (way.Parameter InOut) = refl
in-told (way.Parameter Out) = refl
in-told other = refl

out-told : (way : Declaration) → comes_out way ≡ (directions way).1
out-told (way.Parameter In) = refl
out-told (way.Parameter InOut) = refl
out-told (way.Parameter Out) = refl
out-told other = refl

pub member-told : (way : Declaration) (e : Entity) (bodies : List Body) → with_member way e bodies ≡ with_innermost (λ b.
    if kind_eq e.kind MemberKind || kind_eq e.kind Parameter
    then record b {
      members = b.members ++ record {
        name = name_of e.path;
        data_type = e.data_type;
        labels = b.labels;
        goes_in = (directions way).0;
        comes_out = (directions way).1;
      } ∷ [];
      labels = [];
    } else b) bodies
member-told way e bodies = λ i. with_innermost (λ b.
    if kind_eq e.kind MemberKind || kind_eq e.kind Parameter
    then record b {
      members = b.members ++ record {
        name = name_of e.path;
        data_type = e.data_type;
        labels = b.labels;
        goes_in = in-told way i;
        comes_out = out-told way i;
      } ∷ [];
      labels = [];
    } else b) bodies

-- ---- integers

module _ (k : IntegerKind) (z : ℤ) where
  abbrev held_by : Bool → Bool
  held_by b =
      let half = 2 ^ (width k - 1) in
      if b then int_le (neg_ℤ (pos half)) z && int_le z (pos (half - 1))
      else int_le (pos 0) z && int_le z (pos (2 ^ width k - 1))

  holds-by : (b : Bool) → is_within (if b then neg_ℤ (power (width k - 1)) else pos 0) (pos (2 ^ (if b then width k - 1 else width k) - 1)) z ≡ held_by b
  holds-by true = refl
  holds-by false = refl

  pub held-told : holds k z ≡ held_by (is_signed k)
  held-told = holds-by (is_signed k)

  pub parts-told : in_parts k z ≡ (let bits = max 32 (width k) in if int_le (neg_ℤ (pos (2 ^ (bits - 1)))) z && int_le z (pos (2 ^ bits - 1)) then Ok z else Err OutOfRange)
  parts-told = refl
