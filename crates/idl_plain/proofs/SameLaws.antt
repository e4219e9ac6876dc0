-- Tests whether values are one hold of one value alone.
use Rattle.std.proofs.Common.{◌≡◌, ℕ, Bool, true, List, refl, subst}
use Rattle.std.specs.Prelude.{◌↔◌}
use Rattle.std.specs.Cmp.Lexicographic.{bytes_decides, pointwise_decides}
use Rattle.idl_entity.specs.Kind.{kind_eq, same_kind, same_stage, stage_eq}
use Rattle.idl_entity.specs.declared.kind.Kind.{Kind}
use Rattle.idl_entity.specs.declared.kind.Kind.TheVariants.{Module}
use Rattle.idl_entity.specs.declared.kind.Stage.{Stage}
use Rattle.idl_entity.specs.declared.kind.Stage.TheVariants.{Ahead}
use Rattle.idl_env.specs.SameKey.{same_key}
use Rattle.idl_env.specs.declared.keys.key.Key.{Key}
use Rattle.idl_env.specs.keys.Digested.{key_equiv}
use Rattle.idl_env.specs.keys.Key.{key_eq}
use Rattle.idl_event.specs.Key.{key_code, key_eq as root_key_eq, same_key as same_root_key}
use Rattle.idl_event.specs.declared.asked.key.RootKey.{RootKey}
use Rattle.idl_value.specs.Equal.{path_eq}

decided : {A : Type 0} (eq : A → A → Bool) → ((x : A) → eq x x ≡ true) → ((x y : A) → eq x y ≡ true → x ≡ y) → (x y : A) → (eq x y ≡ true) ↔ (x ≡ y)
decided eq self same x y = (same x y, λ e. subst (λ z. eq x z ≡ true) e (self x))

kind-self : (x : Kind) → kind_eq x x ≡ true
kind-self Module = refl
kind-self other = refl

stage-self : (x : Stage) → stage_eq x x ≡ true
stage-self Ahead = refl
stage-self other = refl

pub kinds-decided : (x y : Kind) → (kind_eq x y ≡ true) ↔ (x ≡ y)
kinds-decided = decided kind_eq kind-self same_kind

pub stages-decided : (x y : Stage) → (stage_eq x y ≡ true) ↔ (x ≡ y)
stages-decided = decided stage_eq stage-self same_stage

pub paths-decided : (p q : List (List ℕ)) → (path_eq p q ≡ true) ↔ (p ≡ q)
paths-decided = pointwise_decides bytes_decides

pub keys-decided : (k other : Key) → (key_eq k other ≡ true) ↔ (k ≡ other)
keys-decided = decided key_eq key_equiv.refl same_key

pub root-keys-decided : (k other : RootKey) → (root_key_eq k other ≡ true) ↔ (k ≡ other)
root-keys-decided = decided root_key_eq (λ k. (bytes_decides (key_code k) (key_code k)).1 refl) same_root_key
