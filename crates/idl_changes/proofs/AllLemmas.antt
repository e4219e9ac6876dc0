-- What holds of all items, of parts of a list.
use Rattle.std.proofs.Common.{◌≡◌, ◌+◌, ◌++◌, ◌∷◌, ◌||◌, [], ℕ, zero, suc, All, Bool, List, Some, arith, false, flat_map, map, nat_eq, refl, subst, sym, true}
use Rattle.std.specs.List.{enumerate_from, list_any, slice_get}
use Rattle.std.proofs.lemmas.Option.{same_Some}
use Rattle.idl_base.specs.Exact.{same_number}
use Rattle.std.proofs.lemmas.List.Elements.{All-cons, All-head, All-nil, All-tail}

pub All-front : {X : Type 0} (P : X → Type 0) (xs ys : List X) → All P (xs ++ ys) → All P xs
All-front P [] ys all = All-nil P
All-front P (x ∷ xs) ys all = All-cons P x xs (All-head P x (xs ++ ys) all) (All-front P xs ys (All-tail P x (xs ++ ys) all))

pub All-back : {X : Type 0} (P : X → Type 0) (xs ys : List X) → All P (xs ++ ys) → All P ys
All-back P [] ys all = all
All-back P (x ∷ xs) ys all = All-back P xs ys (All-tail P x (xs ++ ys) all)

pub All-unmap : {X Y : Type 0} (P : Y → Type 0) (f : X → Y) (xs : List X) → All P (map f xs) → All (λ x. P (f x)) xs
All-unmap P f [] all = All-nil (λ x. P (f x))
All-unmap P f (x ∷ xs) all = All-cons (λ x. P (f x)) x xs (All-head P (f x) (map f xs) all) (All-unmap P f xs (All-tail P (f x) (map f xs) all))

-- what holds of all that is told of items holds of what is told of each
pub All-told : {X Y : Type 0} (P : Y → Type 0) (f : ℕ → X → List Y) (n i m : ℕ) (xs : List X) (x : X) → m ≡ n + i → slice_get xs i ≡ Some x
    → All P (flat_map (λ (p : ℕ × X). f p.0 p.1) (enumerate_from n xs)) → All P (f m x)
All-told P f n i m [] x is at all = cc
All-told {X} {Y} P f n zero m (y ∷ ys) x is at all =
    let place : m ≡ n = omega (arith, is) in
    let here = All-front P (f n y) (flat_map (λ (p : ℕ × X). f p.0 p.1) (enumerate_from (n + 1) ys)) all in
    subst (λ (k : ℕ). All P (f k x)) (sym place) (subst (λ (z : X). All P (f n z)) (same_Some y x at) here)
All-told {X} {Y} P f n (suc i) m (y ∷ ys) x is at all =
    let place : m ≡ n + 1 + i = omega (arith, is) in
    All-told P f (n + 1) i m ys x place at (All-back P (f n y) (flat_map (λ (p : ℕ × X). f p.0 p.1) (enumerate_from (n + 1) ys)) all)

-- and of what is told of an item that is among these
pub All-each : {Y : Type 0} (P : Y → Type 0) (f : ℕ → List Y) (xs : List ℕ) (k : ℕ) → list_any (nat_eq k) xs ≡ true → All P (flat_map f xs) → All P (f k)
All-each P f [] k is all = cc
All-each {Y} P f (x ∷ xs) k is all = by (nat_eq k x) refl (λ h. All-each P f xs k h (All-back P (f x) (flat_map f xs) all)) is
  where
    by : (b : Bool) → nat_eq k x ≡ b → (list_any (nat_eq k) xs ≡ true → All P (f k)) → (b || list_any (nat_eq k) xs) ≡ true → All P (f k)
    by true e rest h = subst (λ (z : ℕ). All P (f z)) (sym (same_number k x e)) (All-front P (f x) (flat_map f xs) all)
    by false e rest h = rest h

pub All-among : {X Y : Type 0} (P : Y → Type 0) (f : X → List Y) (xs : List X) (i : ℕ) (x : X) → slice_get xs i ≡ Some x → All P (flat_map f xs) → All P (f x)
All-among P f [] i x at all = cc
All-among {X} P f (y ∷ ys) zero x at all = subst (λ (z : X). All P (f z)) (same_Some y x at) (All-front P (f y) (flat_map f ys) all)
All-among P f (y ∷ ys) (suc i) x at all = All-among P f ys i x at (All-back P (f y) (flat_map f ys) all)
