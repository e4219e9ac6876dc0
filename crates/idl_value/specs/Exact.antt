-- Why `==` holds of one value, or of one target, alone, and why a clone is its source.
-- Nothing to believe here: all of it is proved.
use Rattle.std.specs.Prelude.{◌≡◌, ℕ, List, true, nat_eq, refl}
use Rattle.std.specs.Cmp.Lexicographic.{bytes_decides, pointwise_decides}
use Rattle.std.proofs.Common.{ap}
use Rattle.idl_base.specs.Exact.{both, same_bool, same_integer, same_list, same_number, same_option}
use Rattle.idl_value.specs.Equal.{path_eq, target_eq, text_eq, value_eq}
use Rattle.idl_value.specs.integers.SameInteger.{same_integer_kind}
use Rattle.idl_value.specs.declared.constant_type.ConstantType.{ConstantType}
use Rattle.idl_value.specs.declared.constant_type.ConstantType.TheVariants as target
use Rattle.idl_value.specs.declared.value.Value.{Value}
use Rattle.idl_value.specs.declared.value.Value.TheVariants as value

pub same_path : (p q : List (List ℕ)) → path_eq p q ≡ true → p ≡ q
same_path p q = (pointwise_decides bytes_decides p q).0

pub same_text : (s t : List ℕ) → text_eq s t ≡ true → s ≡ t
same_text s t = same_list nat_eq same_number s t

pub same_value : (x y : Value) → value_eq x y ≡ true → x ≡ y
same_value (value.Integer z) (value.Integer z') h = ap value.Integer (same_integer z z' h)
same_value (value.Boolean b) (value.Boolean b') h = ap value.Boolean (same_bool b b' h)
same_value (value.Character c) (value.Character c') h = ap value.Character (same_number c c' h)
same_value (value.WideCharacter c) (value.WideCharacter c') h =
    ap value.WideCharacter (same_number c c' h)
same_value (value.Text s) (value.Text s') h = ap value.Text (same_text s s' h)
same_value (value.WideText s) (value.WideText s') h = ap value.WideText (same_text s s' h)
same_value (value.Enumerator p n) (value.Enumerator p' n') h =
    let parts = both _ _ h in
    λ i. value.Enumerator (same_path p p' parts.0 i) ((bytes_decides n n').0 parts.1 i)
same_value x y h = cc

-- a copy is its source, by the copies of its parts
abbrev pub IsValueCopy : Value → Value → Type 0
IsValueCopy (value.Integer z) (value.Integer z') = z' ≡ z
IsValueCopy (value.Boolean b) (value.Boolean b') = b' ≡ b
IsValueCopy (value.Character c) (value.Character c') = c' ≡ c
IsValueCopy (value.WideCharacter c) (value.WideCharacter c') = c' ≡ c
IsValueCopy (value.Text s) (value.Text s') = s' ≡ s
IsValueCopy (value.WideText s) (value.WideText s') = s' ≡ s
IsValueCopy (value.Enumerator p n) (value.Enumerator p' n') = (p' ≡ p) × (n' ≡ n)
IsValueCopy source copy = ⊥

pub copied_value : (x copy : Value) → IsValueCopy x copy → copy ≡ x
copied_value (value.Integer z) (value.Integer z') h = ap value.Integer h
copied_value (value.Boolean b) (value.Boolean b') h = ap value.Boolean h
copied_value (value.Character c) (value.Character c') h = ap value.Character h
copied_value (value.WideCharacter c) (value.WideCharacter c') h = ap value.WideCharacter h
copied_value (value.Text s) (value.Text s') h = ap value.Text h
copied_value (value.WideText s) (value.WideText s') h = ap value.WideText h
copied_value (value.Enumerator p n) (value.Enumerator p' n') h =
    λ i. value.Enumerator (h.0 i) (h.1 i)
copied_value x copy h = absurd h

pub same_target : (x y : ConstantType) → target_eq x y ≡ true → x ≡ y
same_target (target.Integer k) (target.Integer k') h =
    ap target.Integer (same_integer_kind k k' h)
same_target target.Boolean target.Boolean h = refl
same_target target.Character target.Character h = refl
same_target target.WideCharacter target.WideCharacter h = refl
same_target (target.Text o) (target.Text o') h =
    ap target.Text (same_option nat_eq same_number o o' h)
same_target (target.WideText o) (target.WideText o') h =
    ap target.WideText (same_option nat_eq same_number o o' h)
same_target (target.Enumeration p) (target.Enumeration p') h =
    ap target.Enumeration (same_path p p' h)
same_target x y h = cc
