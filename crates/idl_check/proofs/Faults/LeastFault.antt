-- The least fault of a list is one of it, and not after any of it.
use Rattle.std.proofs.Common.{◌≡◌, ◌∙◌, ◌<◌, ◌≤◌, Bool, true, false, List, [], ◌∷◌, None, Some, refl, subst, arith, inl, inr}
use Rattle.std.proofs.lemmas.Bool.{and_cases, and_parts, cases_lt, cond_both, eqb-false, eqb-true, ltb-false, ltb-true, or_cases, or_parts}
use Rattle.std.proofs.lemmas.List.Elements.{All-contains, All-contains_itself, All-cons, All-nil}
use Rattle.std.specs.Prelude.{◌&&◌, ◌||◌, ◌⊎◌, All, Contains, fold, nat_eq, nat_lt}
use Rattle.idl_check.specs.walk.Judging.{IsNotAfter}
use Rattle.idl_fault.specs.Code.{number_of}
use Rattle.idl_unit.specs.Faults.{least_fault, lesser_fault}
use Rattle.idl_unit.specs.declared.fault.Fault.{Fault}
use Rattle.idl_check.proofs.Faults.FaultOrder.{least-in}

after-itself : (f : Fault) → IsNotAfter f f
after-itself f = inr (refl, omega arith)

pub after-trans : (f g h : Fault) → IsNotAfter f g → IsNotAfter g h → IsNotAfter f h
after-trans f g h (inl a) (inl b) = inl (omega arith)
after-trans f g h (inl a) (inr b) = inl (omega (arith, b.0))
after-trans f g h (inr a) (inl b) = inl (omega (arith, a.0))
after-trans f g h (inr a) (inr b) = inr (a.0 ∙ b.0, omega (arith, a.1, b.1))

-- the one of two that the test tells
abbrev pub is_lesser : Fault → Fault → Bool
is_lesser f g = nat_lt g.index f.index || (nat_eq g.index f.index && nat_lt (number_of g.code) (number_of f.code))

pub lesser-yes : (f g : Fault) → (nat_lt g.index f.index ≡ true) ⊎ ((nat_eq g.index f.index && nat_lt (number_of g.code) (number_of f.code)) ≡ true) → IsNotAfter g f
lesser-yes f g (inl h) = inl (ltb-true g.index f.index h)
lesser-yes f g (inr h) =
    let both = and_parts (nat_eq g.index f.index) (nat_lt (number_of g.code) (number_of f.code)) h in
    let below : number_of g.code < number_of f.code = ltb-true (number_of g.code) (number_of f.code) both.1 in
    inr (eqb-true g.index f.index both.0, omega arith)

lesser-beside : (f g : Fault) → f.index ≤ g.index → (nat_eq g.index f.index ≡ false) ⊎ (nat_lt (number_of g.code) (number_of f.code) ≡ false) → (f.index < g.index) ⊎ (g.index ≤ f.index) → IsNotAfter f g
lesser-beside f g le either (inl lt) = inl lt
lesser-beside f g le (inl other) (inr ge) = absurd (eqb-false g.index f.index other (omega arith))
lesser-beside f g le (inr below) (inr ge) = inr (omega arith, ltb-false (number_of g.code) (number_of f.code) below)

pub lesser-no : (f g : Fault) → is_lesser f g ≡ false → IsNotAfter f g
lesser-no f g h =
    let both = or_parts (nat_lt g.index f.index) (nat_eq g.index f.index && nat_lt (number_of g.code) (number_of f.code)) h in
    lesser-beside f g (ltb-false g.index f.index both.0) (and_cases (nat_eq g.index f.index) (nat_lt (number_of g.code) (number_of f.code)) both.1) (cases_lt f.index g.index)

pub lesser-first : (f g : Fault) → IsNotAfter (lesser_fault f g) f
lesser-first f g =
    cond_both (is_lesser f g) g f (λ x. IsNotAfter x f)
    (λ h. lesser-yes f g (or_cases (nat_lt g.index f.index) (nat_eq g.index f.index && nat_lt (number_of g.code) (number_of f.code)) h)) (λ h. after-itself f)

pub lesser-second : (f g : Fault) → IsNotAfter (lesser_fault f g) g
lesser-second f g = cond_both (is_lesser f g) g f (λ x. IsNotAfter x g) (λ h. after-itself g) (λ h. lesser-no f g h)

fold-first : (f : Fault) (fs : List Fault) → IsNotAfter (fold lesser_fault f fs) f
fold-first f [] = after-itself f
fold-first f (g ∷ fs) = after-trans (fold lesser_fault (lesser_fault f g) fs) (lesser_fault f g) f (fold-first (lesser_fault f g) fs) (lesser-first f g)

fold-all : (f : Fault) (fs : List Fault) → All (IsNotAfter (fold lesser_fault f fs)) fs
fold-all f [] = All-nil (IsNotAfter f)
fold-all f (g ∷ fs) =
    let least = fold lesser_fault (lesser_fault f g) fs in
    All-cons (IsNotAfter least) g fs (after-trans least (lesser_fault f g) g (fold-first (lesser_fault f g) fs) (lesser-second f g)) (fold-all (lesser_fault f g) fs)

pub least-among : (fs : List Fault) (f : Fault) → least_fault fs ≡ Some f → Contains fs f
least-among fs f h = least-in (Contains fs) fs f (All-contains_itself fs) h

all-after : (fs : List Fault) (f : Fault) → least_fault fs ≡ Some f → All (IsNotAfter f) fs
all-after [] f h = cc
all-after (g ∷ fs) f h =
    let same : fold lesser_fault g fs ≡ f = cc in
    subst (λ x. All (IsNotAfter x) (g ∷ fs)) same (All-cons (IsNotAfter (fold lesser_fault g fs)) g fs (fold-first g fs) (fold-all g fs))

pub least-before : (fs : List Fault) (f : Fault) → least_fault fs ≡ Some f → (g : Fault) → Contains fs g → IsNotAfter f g
least-before fs f h g there = All-contains (IsNotAfter f) fs g (all-after fs f h) there

pub least-none : (fs : List Fault) → least_fault fs ≡ None → fs ≡ []
least-none [] h = refl
least-none (f ∷ fs) h = cc
