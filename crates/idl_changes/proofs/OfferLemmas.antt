-- What interfaces offer, one after another.
use Rattle.std.proofs.Common.{◌≡◌, ◌∙◌, ◌+◌, ◌<◌, ◌++◌, ◌∷◌, ◌≤◌, ◌&&◌, [], ℕ, Bool, List, None, Option, Some, ap, arith, false, find, if◌then◌else◌, nat_eq, nat_lt, refl, sym, true}
use Rattle.std.specs.Cmp.{nat_eq_equiv}
use Rattle.std.specs.Option.{option_or}
use Rattle.std.specs.Str.{bytes_eq}
use Rattle.std.proofs.lemmas.Bool.{false≢true}
use Rattle.std.proofs.lemmas.Bool.Decides.{nat_tests}
use Rattle.std.proofs.lemmas.List.Folds.{find-append}
use Rattle.idl_base.specs.Exact.{same_number}
use Rattle.idl_changes.specs.Listing.{name_at}
use Rattle.idl_changes.specs.Offered.{offered, offers}
use Rattle.idl_repo.specs.declared.details.row_tree.RowTree.{RowTree}

pub or-none : (o : Option ℕ) → option_or o None ≡ o
or-none None = refl
or-none (Some n) = refl

module _ (L : List RowTree) (name : List ℕ) where
  -- what the interfaces before one offer under the name, and it so far
  abbrev pub kept : (k i : ℕ) → List ℕ → Option ℕ
  kept k i so_far = if nat_lt i k then offered L i name else if nat_eq i k then find (λ n. bytes_eq name (name_at L n)) so_far else None

  pub kept-more : (k i : ℕ) (xs ys : List ℕ)
      → option_or (kept k i xs) (if nat_eq i k then find (λ n. bytes_eq name (name_at L n)) ys else None) ≡ kept k i (xs ++ ys)
  kept-more k i xs ys = by (nat_lt i k) (nat_eq i k) refl refl
    where
      by : (b d : Bool) → nat_lt i k ≡ b → nat_eq i k ≡ d
          → option_or (if b then offered L i name else if d then find (λ n. bytes_eq name (name_at L n)) xs else None) (if d then find (λ n. bytes_eq name (name_at L n)) ys else None)
          ≡ (if b then offered L i name else if d then find (λ n. bytes_eq name (name_at L n)) (xs ++ ys) else None)
      by true true lt eq =
          let within : i < k = grind (arith, nat_tests, lt) in
          let same = same_number i k eq in
          absurd (omega (arith, within, same))
      by true false lt eq = or-none (offered L i name)
      by false true lt eq = sym (find-append (λ n. bytes_eq name (name_at L n)) xs ys)
      by false false lt eq = refl

  pub kept-all : (k i : ℕ) → kept k i (offers L k) ≡ (if nat_lt i (k + 1) then offered L i name else None)
  unfolding offered
  kept-all k i = by (nat_lt i k) (nat_eq i k) (nat_lt i (k + 1)) refl refl refl
    where
      by : (b d c : Bool) → nat_lt i k ≡ b → nat_eq i k ≡ d → nat_lt i (k + 1) ≡ c
          → (if b then offered L i name else if d then find (λ n. bytes_eq name (name_at L n)) (offers L k) else None) ≡ (if c then offered L i name else None)
      by true d true lt eq more = refl
      by true d false lt eq more =
          let within : i < k = grind (arith, nat_tests, lt) in
          let past : k + 1 ≤ i = grind (arith, nat_tests, more) in
          absurd (omega (arith, within, past))
      by false true true lt eq more = ap (λ (n : ℕ). find (λ m. bytes_eq name (name_at L m)) (offers L n)) (sym (same_number i k eq))
      by false true false lt eq more =
          let same = same_number i k eq in
          let past : k + 1 ≤ i = grind (arith, nat_tests, more) in
          absurd (omega (arith, same, past))
      by false false true lt eq more =
          let low : k ≤ i = grind (arith, nat_tests, lt) in
          let high : i < k + 1 = grind (arith, nat_tests, more) in
          let same : i ≡ k = omega (arith, low, high) in
          absurd (false≢true (sym eq ∙ ap (nat_eq i) (sym same) ∙ nat_eq_equiv.refl i))
      by false false false lt eq more = refl

-- one more under a key
pub find-next : (test : ℕ → Bool) (xs : List ℕ) (n : ℕ) (o : Option ℕ)
    → option_or (option_or o (find test xs)) (if test n then Some n else None) ≡ option_or o (find test (xs ++ n ∷ []))
find-next test xs n o = by o ∙ ap (option_or o) (sym (find-append test xs (n ∷ [])))
  where
    by : (o : Option ℕ) → option_or (option_or o (find test xs)) (if test n then Some n else None) ≡ option_or o (option_or (find test xs) (if test n then Some n else None))
    by None = refl
    by (Some k) = refl

-- the same by the place of the interface
pub offer-next : (i k : ℕ) (test : ℕ → Bool) (xs : List ℕ) (n : ℕ) (o : Option ℕ)
    → option_or (option_or o (if nat_eq i k then find test xs else None)) (if test n && nat_eq i k then Some n else None)
    ≡ option_or o (if nat_eq i k then find test (xs ++ n ∷ []) else None)
offer-next i k test xs n o = by (nat_eq i k)
  where
    and-true : (b : Bool) → (b && true) ≡ b
    and-true true = refl
    and-true false = refl

    and-false : (b : Bool) → (b && false) ≡ false
    and-false true = refl
    and-false false = refl

    by : (b : Bool) → option_or (option_or o (if b then find test xs else None)) (if test n && b then Some n else None) ≡ option_or o (if b then find test (xs ++ n ∷ []) else None)
    by true = ap (λ (c : Bool). option_or (option_or o (find test xs)) (if c then Some n else None)) (and-true (test n)) ∙ find-next test xs n o
    by false = ap (λ (c : Bool). option_or (option_or o None) (if c then Some n else None)) (and-false (test n)) ∙ or-none (option_or o None)

-- before it offers anything
pub kept-none : (L : List RowTree) (name : List ℕ) (k i : ℕ) → kept L name k i [] ≡ (if nat_lt i k then offered L i name else None)
kept-none L name k i = by (nat_lt i k) (nat_eq i k)
  where
    by : (b d : Bool) → (if b then offered L i name else if d then None else None) ≡ (if b then offered L i name else None)
    by true d = refl
    by false true = refl
    by false false = refl
