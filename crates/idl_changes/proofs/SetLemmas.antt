-- Sets of places, by which of them they have.
use Rattle.std.proofs.Common.{◌≡◌, ◌∙◌, ◌<◌, ◌≤◌, ◌∷◌, ◌&&◌, ◌||◌, [], ℕ, Bool, List, None, Option, Some, ap, ap₂, arith, cond, false, nat_cmp, nat_eq, nat_lt, refl, sym, true}
use Rattle.std.specs.BTreeMap.{is_at}
use Rattle.std.specs.List.{list_any}
use Rattle.std.specs.Option.{option_eq, option_map_or}
use Rattle.std.specs.Ordering.{is_eq}
use Rattle.std.proofs.lemmas.Bool.Decides.{nat_tests}
use Rattle.idl_base.specs.Exact.{same_number}

same-test : (n k : ℕ) → is_eq (nat_cmp n k) ≡ nat_eq n k
same-test n k = grind (arith, nat_tests)

turned-test : (n k : ℕ) → nat_eq k n ≡ nat_eq n k
turned-test n k = grind (arith, nat_tests)

pub has-place : (n : ℕ) (ks : List ℕ) → list_any (is_at (nat_cmp n)) ks ≡ list_any (nat_eq n) ks
has-place n [] = refl
has-place n (k ∷ ks) = ap₂ (λ (a b : Bool). a || b) (same-test n k) (has-place n ks)

-- one that is put in
pub more-places : (old new : List ℕ) (k n : ℕ)
    → list_any (is_at (nat_cmp n)) new ≡ cond (is_at (nat_cmp k) n) true (list_any (is_at (nat_cmp n)) old)
    → list_any (nat_eq n) new ≡ (nat_eq n k || list_any (nat_eq n) old)
more-places old new k n put =
    sym (has-place n new) ∙ put
    ∙ ap₂ (λ (a b : Bool). cond a true b) (same-test k n ∙ turned-test n k) (has-place n old)
    ∙ by (nat_eq n k)
  where
    by : (b : Bool) → cond b true (list_any (nat_eq n) old) ≡ (b || list_any (nat_eq n) old)
    by true = refl
    by false = refl

-- tests in another order
pub or-turned : (a b : Bool) → (a || b) ≡ (b || a)
or-turned true true = refl
or-turned true false = refl
or-turned false true = refl
or-turned false false = refl

pub some-test : (place : Option ℕ) (n : ℕ) → option_map_or (nat_eq n) place false ≡ option_eq nat_eq place (Some n)
some-test None n = refl
some-test (Some k) n = turned-test k n

-- whether a place is among those of a set
none-among : (above : List ℕ) → list_any (λ (n : ℕ). option_eq nat_eq None (Some n)) above ≡ false
none-among [] = refl
none-among (n ∷ above) = none-among above

pub place-among : (place : Option ℕ) (keys above : List ℕ) → ((n : ℕ) → list_any (nat_eq n) keys ≡ list_any (nat_eq n) above)
    → option_map_or (λ (n : ℕ). list_any (nat_eq n) keys) place false ≡ list_any (λ (n : ℕ). option_eq nat_eq place (Some n)) above
place-among None keys above same = sym (none-among above)
place-among (Some k) keys above same = same k

-- whether a place is one that stands before a bound
and-false : (b : Bool) → (b && false) ≡ false
and-false true = refl
and-false false = refl

pub before-test : (n k bound : ℕ) → k < bound → (nat_lt n bound && nat_eq n k) ≡ nat_eq n k
before-test n k bound within = by (nat_eq n k) refl
  where
    by : (b : Bool) → nat_eq n k ≡ b → (nat_lt n bound && b) ≡ b
    by true e =
        let same = same_number n k e in
        let lower : n < bound = omega (arith, same, within) in
        let test : nat_lt n bound ≡ true = grind (arith, nat_tests, lower) in
        ap (λ (c : Bool). c && true) test
    by false e = and-false (nat_lt n bound)

pub past-test : (n k bound : ℕ) → bound ≤ k → (nat_lt n bound && nat_eq n k) ≡ false
past-test n k bound past = by (nat_eq n k) refl
  where
    by : (b : Bool) → nat_eq n k ≡ b → (nat_lt n bound && b) ≡ false
    by true e =
        let same = same_number n k e in
        let beyond : bound ≤ n = omega (arith, same, past) in
        let test : nat_lt n bound ≡ false = grind (arith, nat_tests, beyond) in
        ap (λ (c : Bool). c && true) test
    by false e = and-false (nat_lt n bound)

pub or-false : (b : Bool) → (b || false) ≡ b
or-false true = refl
or-false false = refl
