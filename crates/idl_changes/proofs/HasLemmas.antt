-- Which numbers a list has.
use Rattle.std.proofs.Common.{◌≡◌, ◌∙◌, ◌+◌, ◌++◌, ◌∷◌, ◌||◌, ◌⊎◌, ◌<◌, [], ℕ, zero, suc, All, Bool, Contains, List, Some, ap, arith, cond, false, filter, find, flat_map, get_or, inl, inr, is_some, length, map, nat_eq, refl, sym, subst, take, true}
use Rattle.std.specs.Cmp.{nat_eq_equiv}
use Rattle.std.specs.List.{enumerate_from, list_all, list_any, slice_get}
use Rattle.std.proofs.lemmas.Bool.{false≢true}
use Rattle.std.proofs.lemmas.List.Elements.{All-cons, All-head, All-tail}
use Rattle.std.proofs.lemmas.Option.{same_Some}
use Rattle.idl_base.specs.Exact.{both, same_number}

-- tests that say the same
pub same-tests : (a b : Bool) → (a ≡ true → b ≡ true) → (b ≡ true → a ≡ true) → a ≡ b
same-tests true true f g = refl
same-tests false false f g = refl
same-tests true false f g = sym (f refl)
same-tests false true f g = g refl

pub no-test : (a : Bool) → (a ≡ true → ⊥) → a ≡ false
no-test true never = absurd (never refl)
no-test false never = refl

abbrev pub Has : List ℕ → ℕ → Type 0
Has xs n = list_any (nat_eq n) xs ≡ true

-- a list has what stands first in it, and what the rest has
pub has-first : (n : ℕ) (xs : List ℕ) → Has (n ∷ xs) n
has-first n xs = ap (λ (b : Bool). b || list_any (nat_eq n) xs) (nat_eq_equiv.refl n)

pub has-rest : (x n : ℕ) (xs : List ℕ) → Has xs n → Has (x ∷ xs) n
has-rest x n xs is = by (nat_eq n x)
  where
    by : (b : Bool) → (b || list_any (nat_eq n) xs) ≡ true
    by true = refl
    by false = is

pub has-either : (x n : ℕ) (xs : List ℕ) → Has (x ∷ xs) n → (n ≡ x) ⊎ Has xs n
has-either x n xs is = by (nat_eq n x) refl is
  where
    by : (b : Bool) → nat_eq n x ≡ b → (b || list_any (nat_eq n) xs) ≡ true → (n ≡ x) ⊎ Has xs n
    by true e h = inl (same_number n x e)
    by false e h = inr h

pub has-appended : (n : ℕ) (xs ys : List ℕ) → Has (xs ++ ys) n → Has xs n ⊎ Has ys n
has-appended n [] ys is = inr is
has-appended n (x ∷ xs) ys is = elim (has-either x n (xs ++ ys) is) [
  | inl e ↦ inl (subst (λ (y : ℕ). Has (y ∷ xs) n) e (has-first n xs))
  | inr h ↦ elim (has-appended n xs ys h) [ inl a ↦ inl (has-rest x n xs a) | inr b ↦ inr b ]
]

pub has-front : (n : ℕ) (xs ys : List ℕ) → Has xs n → Has (xs ++ ys) n
has-front n [] ys is = cc
has-front n (x ∷ xs) ys is = elim (has-either x n xs is) [
  | inl e ↦ subst (λ (y : ℕ). Has (y ∷ (xs ++ ys)) n) e (has-first n (xs ++ ys))
  | inr h ↦ has-rest x n (xs ++ ys) (has-front n xs ys h)
]

pub has-back : (n : ℕ) (xs ys : List ℕ) → Has ys n → Has (xs ++ ys) n
has-back n [] ys is = is
has-back n (x ∷ xs) ys is = has-rest x n (xs ++ ys) (has-back n xs ys is)

-- lists of lists in a row
pub has-flat : (f : ℕ → List ℕ) (xs : List ℕ) (x n : ℕ) → Has xs x → Has (f x) n → Has (flat_map f xs) n
has-flat f [] x n is own = cc
has-flat f (y ∷ ys) x n is own = elim (has-either y x ys is) [
  | inl e ↦ has-front n (f y) (flat_map f ys) (subst (λ (z : ℕ). Has (f z) n) e own)
  | inr h ↦ has-back n (f y) (flat_map f ys) (has-flat f ys x n h own)
]

pub flat-has : (f : ℕ → List ℕ) (xs : List ℕ) (n : ℕ) → Has (flat_map f xs) n → (x : ℕ) × Has xs x × Has (f x) n
flat-has f [] n is = cc
flat-has f (y ∷ ys) n is = elim (has-appended n (f y) (flat_map f ys) is) [
  | inl a ↦ (y, has-first y ys, a)
  | inr b ↦ let rest = flat-has f ys n b in (rest.0, has-rest y rest.0 ys rest.1, rest.2)
]

-- by place
pub has-at : (xs : List ℕ) (i n : ℕ) → slice_get xs i ≡ Some n → Has xs n
has-at [] i n at = cc
has-at (x ∷ xs) zero n at = subst (λ (y : ℕ). Has (x ∷ xs) y) (same_Some x n at) (has-first x xs)
has-at (x ∷ xs) (suc i) n at = has-rest x n xs (has-at xs i n at)

pub at-has : (xs : List ℕ) (n : ℕ) → Has xs n → (i : ℕ) × (slice_get xs i ≡ Some n)
at-has [] n is = cc
at-has (x ∷ xs) n is = elim (has-either x n xs is) [
  | inl e ↦ (0, ap Some (sym e))
  | inr h ↦ let rest = at-has xs n h in (suc rest.0, rest.1)
]

-- as `Contains` says it
pub contains-has : (xs : List ℕ) (n : ℕ) → Contains xs n → Has xs n
contains-has xs n is = by xs is.0 is.1 is.2
  where
    by : (ys : List ℕ) (k : ℕ) → k < length ys → get_or ys k n ≡ n → Has ys n
    by [] k within at = absurd (omega (arith, within))
    by (y ∷ ys) zero within at = subst (λ (z : ℕ). Has (z ∷ ys) n) (sym at) (has-first n ys)
    by (y ∷ ys) (suc k) within at = has-rest y n ys (by ys k (omega (arith, within)) at)

pub has-contains : (xs : List ℕ) (n : ℕ) → Has xs n → Contains xs n
has-contains [] n is = cc
has-contains (x ∷ xs) n is = elim (has-either x n xs is) [
  | inl e ↦ (0, omega arith, sym e)
  | inr h ↦ let rest = has-contains xs n h in (suc rest.0, omega (arith, rest.1), rest.2)
]

-- what holds of each that a list has holds of all
pub all-has : (P : ℕ → Type 0) (xs : List ℕ) → ((n : ℕ) → Has xs n → P n) → All P xs
all-has P [] each = λ k d within. absurd (omega (arith, within))
all-has P (x ∷ xs) each = All-cons P x xs (each x (has-first x xs)) (all-has P xs (λ n is. each n (has-rest x n xs is)))

-- and what holds of all holds of each
pub has-holds : (P : ℕ → Type 0) (xs : List ℕ) (n : ℕ) → Has xs n → All P xs → P n
has-holds P [] n is all = cc
has-holds P (x ∷ xs) n is all = elim (has-either x n xs is) [
  | inl e ↦ subst P (sym e) (All-head P x xs all)
  | inr h ↦ has-holds P xs n h (All-tail P x xs all)
]

-- a test that passes at all passes at each, and one that passes at some at one
pub all-passes : (test : ℕ → Bool) (xs : List ℕ) (n : ℕ) → list_all test xs ≡ true → Has xs n → test n ≡ true
all-passes test [] n all is = cc
all-passes test (x ∷ xs) n all is =
    let parts = both (test x) (list_all test xs) all in
    elim (has-either x n xs is) [ inl e ↦ ap test e ∙ parts.0 | inr h ↦ all-passes test xs n parts.1 h ]

pub one-passes : (test : ℕ → Bool) (xs : List ℕ) → list_any test xs ≡ true → (n : ℕ) × Has xs n × (test n ≡ true)
one-passes test [] is = cc
one-passes test (x ∷ xs) is = by (test x) refl (one-passes test xs) is
  where
    by : (b : Bool) → test x ≡ b → (list_any test xs ≡ true → (n : ℕ) × Has xs n × (test n ≡ true)) → (b || list_any test xs) ≡ true
        → (n : ℕ) × Has (x ∷ xs) n × (test n ≡ true)
    by true e others h = (x, has-first x xs, e)
    by false e others h = let rest = others h in (rest.0, has-rest x rest.0 xs rest.1, rest.2)

-- what is found passes and is there, and something is found where one passes
pub found-passes : (test : ℕ → Bool) (xs : List ℕ) (n : ℕ) → find test xs ≡ Some n → Has xs n × (test n ≡ true)
found-passes test [] n is = cc
found-passes test (x ∷ xs) n is = by (test x) refl (found-passes test xs n) is
  where
    by : (b : Bool) → test x ≡ b → (find test xs ≡ Some n → Has xs n × (test n ≡ true)) → cond b (Some x) (find test xs) ≡ Some n → Has (x ∷ xs) n × (test n ≡ true)
    by true e others h = let same = same_Some x n h in (subst (λ (y : ℕ). Has (x ∷ xs) y) same (has-first x xs), sym (ap test same) ∙ e)
    by false e others h = let rest = others h in (has-rest x n xs rest.0, rest.1)

pub passes-found : (test : ℕ → Bool) (xs : List ℕ) (n : ℕ) → Has xs n → test n ≡ true → is_some (find test xs) ≡ true
passes-found test [] n is pass = cc
passes-found test (x ∷ xs) n is pass = by (test x) refl (λ h. passes-found test xs n h pass)
  where
    by : (b : Bool) → test x ≡ b → (Has xs n → is_some (find test xs) ≡ true) → is_some (cond b (Some x) (find test xs)) ≡ true
    by true e others = refl
    by false e others = elim (has-either x n xs is) [
      | inl same ↦ absurd (false≢true (sym e ∙ ap test (sym same) ∙ pass))
      | inr h ↦ others h
    ]

-- the places of what passes a test
-- k is the place of one that passes, and m how many before it do
abbrev pub PassesAt : {X : Type 0} → (X → Bool) → ℕ → List X → (m k : ℕ) → Type 0
PassesAt {X} test n xs m k =
    (i : ℕ) × (x : X) × (k ≡ n + i) × (slice_get xs i ≡ Some x) × (test x ≡ true) × (m ≡ length (filter test (take i xs)))

pub passing-place : {X : Type 0} (test : X → Bool) (n : ℕ) (xs : List X) (m k : ℕ)
    → slice_get (map (λ (p : ℕ × X). p.0) (filter (λ (p : ℕ × X). test p.1) (enumerate_from n xs))) m ≡ Some k → PassesAt test n xs m k
passing-place test n [] m k at = cc
passing-place {X} test n (x ∷ xs) m k at = by (test x) refl m (λ j h. passing-place test (n + 1) xs j k h) at
  where
    later : (b : Bool) → test x ≡ b → (j : ℕ) → PassesAt test (n + 1) xs j k → PassesAt test n (x ∷ xs) (cond b (suc j) j) k
    later b e j rest =
        let count : cond b (suc j) j ≡ length (cond (test x) (x ∷ filter test (take rest.0 xs)) (filter test (take rest.0 xs))) =
        ap (λ (c : ℕ). cond b (suc c) c) rest.5 ∙ counted b rest.0 ∙ ap (λ (c : Bool). length (cond c (x ∷ filter test (take rest.0 xs)) (filter test (take rest.0 xs)))) (sym e)
        in
        (suc rest.0, rest.1, omega (arith, rest.2), rest.3, rest.4, count)
      where
        counted : (c : Bool) (i : ℕ) → cond c (suc (length (filter test (take i xs)))) (length (filter test (take i xs))) ≡ length (cond c (x ∷ filter test (take i xs)) (filter test (take i xs)))
        counted true i = refl
        counted false i = refl

    by : (b : Bool) → test x ≡ b → (j : ℕ)
        → ((l : ℕ) → slice_get (map (λ (p : ℕ × X). p.0) (filter (λ (p : ℕ × X). test p.1) (enumerate_from (n + 1) xs))) l ≡ Some k → PassesAt test (n + 1) xs l k)
        → slice_get (map (λ (p : ℕ × X). p.0) (cond b ((n, x) ∷ filter (λ (p : ℕ × X). test p.1) (enumerate_from (n + 1) xs)) (filter (λ (p : ℕ × X). test p.1) (enumerate_from (n + 1) xs)))) j ≡ Some k
        → PassesAt test n (x ∷ xs) j k
    by true e zero others h = let same = same_Some n k h in (0, x, omega (arith, same), refl, e, refl)
    by true e (suc j) others h = later true e j (others j h)
    by false e j others h = later false e j (others j h)
