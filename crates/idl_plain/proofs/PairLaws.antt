-- Two bytes are one mark where the table of marks has them.
use Rattle.std.proofs.Common.{◌≡◌, ◌∷◌, ◌&&◌, ◌||◌, [], Bool, List, None, Option, Some, false, is_some, nat_eq, refl, subst, sym, true, ℕ}
use Rattle.std.proofs.lemmas.Bool.{and_parts, eqb-true}
use Rattle.idl_lex.specs.bytes.Piece.{is_pair}
use Rattle.idl_lex.specs.kinds.Marks.{mark_kind, marks}
use Rattle.idl_lex.specs.declared.kinds.kind.TokenKind.{TokenKind}
use Rattle.idl_plain.proofs.ConditionLaws.{passed, untrue}

agree : (x y : Bool) → (x ≡ true → y ≡ true) → (y ≡ true → x ≡ true) → x ≡ y
agree true y f g = sym (f refl)
agree false true f g = g refl
agree false false f g = refl

either : {P : Type 0} (x y : Bool) → (x ≡ true → P) → (y ≡ true → P) → x || y ≡ true → P
either true y f g h = f refl
either false y f g h = g h

abbrev Has : ℕ → ℕ → Type 0
Has a b = is_some (mark_kind (a ∷ b ∷ [])) ≡ true

-- ---- what is a pair is in the table

twice : (n : ℕ) → Has n n → (a : ℕ) → nat_eq a n ≡ true → Has a a
twice n there a h = subst (λ (x : ℕ). Has x x) (sym (eqb-true a n h)) there

same : (a : ℕ) → nat_eq a 58 || nat_eq a 60 || nat_eq a 62 || nat_eq a 35 || nat_eq a 38 || nat_eq a 124 || nat_eq a 61 ≡ true → Has a a
unfolding marks
same a =
    either (nat_eq a 58 || nat_eq a 60 || nat_eq a 62 || nat_eq a 35 || nat_eq a 38 || nat_eq a 124) (nat_eq a 61)
    (either (nat_eq a 58 || nat_eq a 60 || nat_eq a 62 || nat_eq a 35 || nat_eq a 38) (nat_eq a 124)
    (either (nat_eq a 58 || nat_eq a 60 || nat_eq a 62 || nat_eq a 35) (nat_eq a 38)
    (either (nat_eq a 58 || nat_eq a 60 || nat_eq a 62) (nat_eq a 35)
    (either (nat_eq a 58 || nat_eq a 60) (nat_eq a 62)
    (either (nat_eq a 58) (nat_eq a 60) (twice 58 refl a) (twice 60 refl a))
    (twice 62 refl a)) (twice 35 refl a)) (twice 38 refl a)) (twice 124 refl a)) (twice 61 refl a)

before-equals : (n : ℕ) → Has n 61 → (a : ℕ) → nat_eq a n ≡ true → Has a 61
before-equals n there a h = subst (λ (x : ℕ). Has x 61) (sym (eqb-true a n h)) there

equals : (a : ℕ) → nat_eq a 33 || nat_eq a 60 || nat_eq a 62 ≡ true → Has a 61
unfolding marks
equals a =
    either (nat_eq a 33 || nat_eq a 60) (nat_eq a 62)
    (either (nat_eq a 33) (nat_eq a 60) (before-equals 33 refl a) (before-equals 60 refl a))
    (before-equals 62 refl a)

abbrev among : ℕ → Bool
among a = nat_eq a 58 || nat_eq a 60 || nat_eq a 62 || nat_eq a 35 || nat_eq a 38 || nat_eq a 124 || nat_eq a 61

abbrev before : ℕ → Bool
before a = nat_eq a 33 || nat_eq a 60 || nat_eq a 62

pair-there : (a b : ℕ) → is_pair a b ≡ true → Has a b
pair-there a b =
    either (nat_eq a b && among a) (nat_eq b 61 && before a)
    (λ h. let both = and_parts (nat_eq a b) (among a) h in subst (λ (y : ℕ). Has a y) (eqb-true a b both.0) (same a both.1))
    (λ h. let both = and_parts (nat_eq b 61) (before a) h in subst (λ (y : ℕ). Has a y) (sym (eqb-true b 61 both.0)) (equals a both.1))

-- ---- what is in the table is a pair

abbrev fits : List ℕ → Bool
fits [] = true
fits (a ∷ []) = true
fits (a ∷ b ∷ more) = is_pair a b

abbrev is_fit : List ℕ × TokenKind → Bool
is_fit row = fits row.0

pair-of : (a b : ℕ) (o : Option TokenKind) → mark_kind (a ∷ b ∷ []) ≡ o → is_some o ≡ true → is_pair a b ≡ true
unfolding marks
pair-of a b (Some kind) is h = passed is_fit marks (a ∷ b ∷ []) kind refl is
pair-of a b None is h = absurd (untrue h)

pub pairs-told : (a b : ℕ) → is_pair a b ≡ is_some (mark_kind (a ∷ b ∷ []))
pairs-told a b = agree (is_pair a b) (is_some (mark_kind (a ∷ b ∷ []))) (pair-there a b) (pair-of a b (mark_kind (a ∷ b ∷ [])) refl)
