-- The first item of a list that passes a test, as a loop finds it.
use Rattle.std.proofs.Common.{◌≡◌, ◌≤◌, ◌<◌, ◌∙◌, ◌+◌, ◌-◌, ◌++◌, ℕ, zero, suc, Bool, true, false, cond, List, [], ◌∷◌, Option, None, Some, ap, append-nil, arith, drop, get_or, length, length-append, map, refl, slice_get, sym, take}
use Rattle.std.proofs.lemmas.List.{map-append, take_more}
use Rattle.std.proofs.lemmas.List.Elements.{filter-append}
use Rattle.std.specs.List.{filter, find}
use Rattle.idl_project.specs.idl_sources.idl_root.NamePlaces.{is_at, places_at}
use Rattle.idl_project.specs.idl_sources.idl_root.declared.compiling.places.DeclaredPlace.{DeclaredPlace}
use Rattle.idl_project.specs.idl_sources.idl_root.declared.compiling.places.PlacedName.{PlacedName}

module _ {X : Type 0} (p : X → Bool) where
  next : (i : ℕ) → i + 1 ≡ suc i
  next i = omega arith

  -- one that passes
  pub find-here : (xs : List X) (i : ℕ) (x : X) → i < length xs → x ≡ get_or xs i x → p x ≡ true → find p (drop i xs) ≡ Some x
  find-here [] i x within is passes = let no : ⊥ = omega (arith, within) in absurd no
  find-here (y ∷ ys) zero x within is passes = ap (λ z. find p (z ∷ ys)) (sym is) ∙ ap (λ b. cond b (Some x) (find p ys)) passes
  find-here (y ∷ ys) (suc i) x within is passes = find-here ys i x (omega (arith, within)) is passes

  find-after : (xs : List X) (i : ℕ) (x : X) → i < length xs → x ≡ get_or xs i x → p x ≡ false → find p (drop (suc i) xs) ≡ find p (drop i xs)
  find-after [] i x within is fails = let no : ⊥ = omega (arith, within) in absurd no
  find-after (y ∷ ys) zero x within is fails = sym (ap (λ z. find p (z ∷ ys)) (sym is) ∙ ap (λ b. cond b (Some x) (find p ys)) fails)
  find-after (y ∷ ys) (suc i) x within is fails = find-after ys i x (omega (arith, within)) is fails

  -- one that doesn't
  pub find-past : (xs : List X) (i : ℕ) (x : X) → i < length xs → x ≡ get_or xs i x → p x ≡ false → find p (drop (i + 1) xs) ≡ find p (drop i xs)
  find-past xs i x within is fails = ap (λ n. find p (drop n xs)) (next i) ∙ find-after xs i x within is fails

  -- none is left
  pub find-end : (xs : List X) (i : ℕ) → length xs ≤ i → find p (drop i xs) ≡ None
  find-end [] zero past = refl
  find-end [] (suc i) past = refl
  find-end (y ∷ ys) zero past = let no : ⊥ = omega (arith, past) in absurd no
  find-end (y ∷ ys) (suc i) past = find-end ys i (omega (arith, past))

-- ---- the last one

at-length : {X : Type 0} (xs : List X) (y : X) → slice_get (xs ++ y ∷ []) (length xs) ≡ Some y
at-length [] y = refl
at-length (x ∷ xs) y = at-length xs y

last-pushed : {X : Type 0} (xs : List X) (y : X) → slice_get (xs ++ y ∷ []) (length (xs ++ y ∷ []) - 1) ≡ Some y
last-pushed {X} xs y =
    let end : length (xs ++ y ∷ []) - 1 ≡ length xs = omega (arith, length-append xs (y ∷ [])) in
    ap (λ (n : ℕ). slice_get (xs ++ y ∷ []) n) end ∙ at-length xs y

abbrev last_of : List DeclaredPlace → Option DeclaredPlace
last_of places = slice_get places (length places - 1)

module _ (path : List (List ℕ)) (names : List PlacedName) (i : ℕ) (one : PlacedName) (within : i < length names) (is : one ≡ get_or names i one) where
  places-next : places_at path (take (i + 1) names) ≡ places_at path (take i names) ++ places_at path (one ∷ [])
  places-next =
      ap (places_at path) (take_more names i one within ∙ ap (λ (n : PlacedName). take i names ++ n ∷ []) (sym is))
      ∙ ap (map (λ (n : PlacedName). n.place)) (filter-append (is_at path) (take i names) (one ∷ []))
      ∙ map-append (λ (n : PlacedName). n.place) (filter (is_at path) (take i names)) (filter (is_at path) (one ∷ []))

  -- it is declared there
  pub last-here : is_at path one ≡ true → Some one.place ≡ last_of (places_at path (take (i + 1) names))
  last-here here =
      let single : places_at path (one ∷ []) ≡ one.place ∷ [] = ap (λ (b : Bool). map (λ (n : PlacedName). n.place) (cond b (one ∷ []) [])) here in
      sym (ap last_of (places-next ∙ ap (λ (more : List DeclaredPlace). places_at path (take i names) ++ more) single) ∙ last-pushed (places_at path (take i names)) one.place)

  -- it isn't
  pub last-past : is_at path one ≡ false → last_of (places_at path (take i names)) ≡ last_of (places_at path (take (i + 1) names))
  last-past past =
      let none : places_at path (one ∷ []) ≡ [] = ap (λ (b : Bool). map (λ (n : PlacedName). n.place) (cond b (one ∷ []) [])) past in
      sym (ap last_of (places-next ∙ ap (λ (more : List DeclaredPlace). places_at path (take i names) ++ more) none ∙ append-nil (places_at path (take i names))))
