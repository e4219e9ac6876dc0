-- Membership by recursion over the list, and lists whose items are apart.
use Rattle.std.proofs.Common.{◌≡◌, ◌⊎◌, ℕ, zero, suc, ◌≤◌, ◌<◌, Bool, true, false, List, [], ◌∷◌, ◌++◌, length, get_or, map, Option, Some, None, refl, ap, sym, inl, inr, arith, length-append, subst}
use Rattle.std.specs.Prelude.{◌≢◌, option_to_list, Contains, AllPairs}

abbrev pub IsIn : {A : Type 0} → A → List A → Type 0
IsIn x [] = ⊥
IsIn x (y ∷ ys) = (y ≡ x) ⊎ IsIn x ys

pub either : (b : Bool) → (b ≡ true) ⊎ (b ≡ false)
either true = inl refl
either false = inr refl

pub IsIn-left : {A : Type 0} (x : A) (xs ys : List A) → IsIn x xs → IsIn x (xs ++ ys)
IsIn-left x [] ys h = absurd h
IsIn-left x (z ∷ xs) ys (inl e) = inl e
IsIn-left x (z ∷ xs) ys (inr h) = inr (IsIn-left x xs ys h)

pub IsIn-right : {A : Type 0} (x : A) (xs ys : List A) → IsIn x ys → IsIn x (xs ++ ys)
IsIn-right x [] ys h = h
IsIn-right x (z ∷ xs) ys h = inr (IsIn-right x xs ys h)

pub IsIn-split : {A : Type 0} (x : A) (xs ys : List A) → IsIn x (xs ++ ys) → IsIn x xs ⊎ IsIn x ys
IsIn-split x [] ys h = inr h
IsIn-split x (z ∷ xs) ys (inl e) = inl (inl e)
IsIn-split x (z ∷ xs) ys (inr h) = elim (IsIn-split x xs ys h) as (λ _. IsIn x (z ∷ xs) ⊎ IsIn x ys) [ inl p ↦ inl (inr p) | inr q ↦ inr q ]

pub IsIn-map : {A B : Type 0} (f : A → B) (x : A) (xs : List A) → IsIn x xs → IsIn (f x) (map f xs)
IsIn-map f x [] h = absurd h
IsIn-map f x (y ∷ xs) (inl e) = inl (ap f e)
IsIn-map f x (y ∷ xs) (inr h) = inr (IsIn-map f x xs h)

pub IsIn-option : {A : Type 0} (x : A) (o : Option A) → IsIn x (option_to_list o) → o ≡ Some x
IsIn-option x None h = absurd h
IsIn-option x (Some y) (inl e) = ap Some e
IsIn-option x (Some y) (inr h) = absurd h

pub IsIn-one : {A : Type 0} (x y : A) → IsIn y (x ∷ []) → x ≡ y
IsIn-one x y (inl e) = e
IsIn-one x y (inr h) = absurd h

-- ---- the same as membership by places

pub Contains-IsIn : {A : Type 0} (x : A) (xs : List A) → IsIn x xs → Contains xs x
Contains-IsIn x [] h = absurd h
Contains-IsIn x (y ∷ xs) (inl e) = (0, omega arith, e)
Contains-IsIn x (y ∷ xs) (inr h) = let r = Contains-IsIn x xs h in (suc r.0, omega (arith, r.1), r.2)

pub IsIn-Contains : {A : Type 0} (x : A) (xs : List A) → Contains xs x → IsIn x xs
IsIn-Contains x [] (k, l, h) = absurd (omega (arith, l))
IsIn-Contains x (y ∷ xs) (zero, l, h) = inl h
IsIn-Contains x (y ∷ xs) (suc k, l, h) = inr (IsIn-Contains x xs (k, omega (arith, l), h))

-- ---- lists whose items are apart

-- no two items are one
abbrev pub Distinct : {A : Type 0} → List A → Type 0
Distinct [] = Unit {0}
Distinct (x ∷ xs) = (IsIn x xs → ⊥) × Distinct xs

pub Distinct-push : {A : Type 0} (x : A) (xs : List A) → (IsIn x xs → ⊥) → Distinct xs → Distinct (xs ++ x ∷ [])
Distinct-push x [] new d = (λ h. h, tt)
Distinct-push x (y ∷ xs) new d = (λ i. elim (IsIn-split y xs (x ∷ []) i) [ inl p ↦ d.0 p | inr q ↦ elim q [ inl e ↦ new (inl (sym e)) | inr h ↦ h ] ], Distinct-push x xs (λ i. new (inr i)) d.1)

-- an item behind others is none of them
pub Distinct-apart : {A : Type 0} (xs : List A) (x : A) (ys : List A) → Distinct (xs ++ x ∷ ys) → IsIn x xs → ⊥
Distinct-apart [] x ys d i = i
Distinct-apart (z ∷ xs) x ys d (inl e) = d.0 (IsIn-right z xs (x ∷ ys) (inl (sym e)))
Distinct-apart (z ∷ xs) x ys d (inr i) = Distinct-apart xs x ys d.1 i

IsIn-get_or : {A : Type 0} (xs : List A) (i : ℕ) (d : A) → i < length xs → IsIn (get_or xs i d) xs
IsIn-get_or [] i d h = absurd (omega (arith, h))
IsIn-get_or (x ∷ xs) zero d h = inl refl
IsIn-get_or (x ∷ xs) (suc i) d h = inr (IsIn-get_or xs i d (omega (arith, h)))

pub AllPairs-Distinct : {A : Type 0} (xs : List A) → Distinct xs → AllPairs (λ x y. x ≢ y) xs
AllPairs-Distinct [] d i j def l h = absurd (omega (arith, h))
AllPairs-Distinct (x ∷ xs) d zero zero def l h = absurd (omega (arith, l))
AllPairs-Distinct (x ∷ xs) d zero (suc j) def l h = λ same. d.0 (let Q : _ → Type 0 = λ y. IsIn y xs in subst Q (sym same) (IsIn-get_or xs j def (omega (arith, h))))
AllPairs-Distinct (x ∷ xs) d (suc i) zero def l h = absurd (omega (arith, l))
AllPairs-Distinct (x ∷ xs) d (suc i) (suc j) def l h = AllPairs-Distinct xs d.1 i j def (omega (arith, l)) (omega (arith, h))

-- a list around one of its items
Around : {A : Type 0} → A → List A → Type 0
Around {A} x xs = (before : List A) × (after : List A) × (xs ≡ before ++ x ∷ after)

around : {A : Type 0} (x : A) (xs : List A) → IsIn x xs → Around x xs
unfolding Around
around x [] i = absurd i
around x (y ∷ xs) (inl e) = ([], xs, ap (λ z. z ∷ xs) e)
around x (y ∷ xs) (inr i) = let r = around x xs i in (y ∷ r.0, r.1, ap (λ zs. y ∷ zs) r.2)

-- items that are apart and all among others are no more than those
pub length-Distinct : {A : Type 0} (xs ys : List A) → Distinct xs → ((x : A) → IsIn x xs → IsIn x ys) → length xs ≤ length ys
unfolding Around
length-Distinct [] ys d within = omega arith
length-Distinct {A} (x ∷ xs) ys d within =
    let r = around x ys (within x (inl refl)) in
    let rest = length-Distinct xs (r.0 ++ r.1) d.1 (λ y i. others r y i) in
    let l = ap length r.2 in
    let m = length-append r.0 (x ∷ r.1) in
    let n = length-append r.0 r.1 in
    omega (arith, rest, l, m, n)
  where
    drop_it : (r : Around x ys) (y : A) → (x ≡ y → ⊥) → IsIn y (r.0 ++ x ∷ r.1) → IsIn y (r.0 ++ r.1)
    drop_it r y apart i = elim (IsIn-split y r.0 (x ∷ r.1) i) [ inl p ↦ IsIn-left y r.0 r.1 p | inr q ↦ elim q [ inl e ↦ absurd (apart e) | inr j ↦ IsIn-right y r.0 r.1 j ] ]

    others : (r : Around x ys) (y : A) → IsIn y xs → IsIn y (r.0 ++ r.1)
    others r y i = drop_it r y (λ e. d.0 (let Q : A → Type 0 = λ z. IsIn z xs in subst Q (sym e) i)) (let Q : List A → Type 0 = λ zs. IsIn y zs in subst Q r.2 (within y (inr i)))
