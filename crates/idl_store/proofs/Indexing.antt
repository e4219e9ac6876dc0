-- An index in which a result comes or goes.
use Rattle.std.proofs.Common.{◌≡◌, ◌≢◌, ◌⊎◌, ℕ, zero, suc, ◌+◌, ◌<◌, ◌≤◌, Bool, true, false, List, [], ◌∷◌, ◌++◌, Some, None, cond, refl, sym, ap, ◌∙◌, subst, arith, inl, inr, length, get_or, take, drop, append_assoc, nat_eq, nat_lt, ⊎_elim}
use Rattle.std.specs.Prelude.{All, Contains, Result, Ok, Err, IfOk, IfErr}
use Rattle.std.specs.Cmp.{IsTotalOrder}
use Rattle.std.specs.List.{AllWithin, HoldsAt, position, position_or_len, remove}
use Rattle.std.specs.List.Sorted.{IsBinarySearchResult, IsNonDecreasingBy, IsSearchInRange}
use Rattle.std.specs.Ordering.{ordering_index, ordering_reverse}
use Rattle.std.specs.declared.cmp.Ordering.{Ordering}
use Rattle.std.specs.declared.cmp.Ordering.TheVariants.{Less, Equal, Greater}
use Rattle.std.proofs.lemmas.Bool.{eqb-false, eqb-true, ltb-false}
use Rattle.std.proofs.lemmas.Cmp.{alike_right}
use Rattle.std.proofs.lemmas.List.Quantifiers.{position-Some}
use Rattle.std.proofs.lemmas.List.Sums.{fails_before_first}
use Rattle.std.proofs.lemmas.List.{get_or-drop, get_or-take, length-drop, length-take-le, take-append-drop, take_more}
use Rattle.std.proofs.lemmas.List.Elements.{All-append, All-cons, All-contains, All-contains_itself, All-drop, All-head, All-nil, All-same, All-tail, All-take, All-weaker, Contains-append_cases, Contains-append_left, Contains-append_right}
use Rattle.idl_store.specs.Buckets.{AddsOne}
use Rattle.idl_store.specs.Index.{AreInOrder, IsGap}

-- ---- lists in order

module _ {X : Type 0} (P : X → Type 0) where
  pub all-front : (front rest : List X) → All P (front ++ rest) → All P front
  all-front [] rest h = All-nil P
  all-front (y ∷ front) rest h = All-cons P y front (All-head P y (front ++ rest) h) (all-front front rest (All-tail P y (front ++ rest) h))

  pub all-rest : (front rest : List X) → All P (front ++ rest) → All P rest
  all-rest [] rest h = h
  all-rest (y ∷ front) rest h = all-rest front rest (All-tail P y (front ++ rest) h)

module _ {X : Type 0} (cmp : X → X → Ordering) (total : IsTotalOrder cmp) where
  before : (x y : X) → cmp y x ≡ Greater → cmp x y ≡ Less
  before x y h = total.antisymm x y ∙ ap ordering_reverse h

  behind : (x y : X) → cmp x y ≡ Less → cmp y x ≢ Equal
  behind x y h e =
      let turned : cmp y x ≡ Greater = total.antisymm y x ∙ ap ordering_reverse h in
      cc

  all_before : (x : X) (rest : List X) → All (λ y. cmp y x ≡ Greater) rest → All (λ y. cmp x y ≡ Less) rest
  all_before x rest h k d below = before x (get_or rest k d) (h k d below)

  -- an item more, where its order wants it
  pub order-insert : (x : X) (front rest : List X) → AreInOrder cmp (front ++ rest) → All (λ y. cmp y x ≡ Less) front → All (λ y. cmp y x ≡ Greater) rest → AreInOrder cmp (front ++ x ∷ rest)
  order-insert x [] rest h less more = (all_before x rest more, h)
  order-insert x (y ∷ front) rest h less more =
      let P : X → Type 0 = λ z. cmp y z ≡ Less in
      let here : cmp y x ≡ Less = All-head (λ y. cmp y x ≡ Less) y front less in (
        All-append P front (x ∷ rest) (all-front P front rest h.0) (All-cons P x rest here (all-rest P front rest h.0)),
        order-insert x front rest h.1 (All-tail (λ y. cmp y x ≡ Less) y front less) more,
      )

  -- an item less
  pub order-remove : (x : X) (front rest : List X) → AreInOrder cmp (front ++ x ∷ rest) → AreInOrder cmp (front ++ rest)
  order-remove x [] rest h = h.1
  order-remove x (y ∷ front) rest h =
      let P : X → Type 0 = λ z. cmp y z ≡ Less in (
        All-append P front rest (all-front P front (x ∷ rest) h.0) (All-tail P x rest (all-rest P front (x ∷ rest) h.0)),
        order-remove x front rest h.1,
      )

  -- no other item has its order
  pub order-apart : (x : X) (front rest : List X) → AreInOrder cmp (front ++ x ∷ rest) → All (λ y. cmp y x ≢ Equal) (front ++ rest)
  order-apart x [] rest h = λ k d below. behind x (get_or rest k d) (h.0 k d below)
  order-apart x (y ∷ front) rest h =
      let less : cmp y x ≡ Less = All-head (λ z. cmp y z ≡ Less) x rest (all-rest (λ z. cmp y z ≡ Less) front (x ∷ rest) h.0) in
      All-cons (λ y. cmp y x ≢ Equal) y (front ++ rest) (λ e. cc) (order-apart x front rest h.1)

module _ {K : Type 0} (R : K → K → Ordering) (total : IsTotalOrder R) where
  -- against anything in the order, what comes first is not behind
  rises : (y z t : K) → R y z ≡ Less → ordering_index (R y t) ≤ ordering_index (R z t)
  rises y z t h = by (R z t) refl
    where
      most : (o : Ordering) → ordering_index o ≤ 2
      most Less = omega arith
      most Equal = omega arith
      most Greater = omega arith

      by : (o : Ordering) → R z t ≡ o → ordering_index (R y t) ≤ ordering_index (R z t)
      by Less e = rw (total.trans y z t h e) (omega arith)
      by Equal e = rw (sym (alike_right total z t y e) ∙ h) (omega arith)
      by Greater e = rw e (most (R y t))

  module _ {X : Type 0} (h : X → K) where
    abbrev cmp : X → X → Ordering
    cmp x y = R (h x) (h y)

    pub order-rises : (t : K) (xs : List X) → AreInOrder cmp xs → IsNonDecreasingBy (λ y. ordering_index (R (h y) t)) xs
    order-rises t [] o i j d le below = absurd (omega (arith, below))
    order-rises t (x ∷ xs) o zero zero d le below = omega arith
    order-rises t (x ∷ xs) o zero (suc j) d le below = rises (h x) (h (get_or xs j d)) t (o.0 j d (omega (arith, below)))
    order-rises t (x ∷ xs) o (suc i) zero d le below = absurd (omega (arith, le))
    order-rises t (x ∷ xs) o (suc i) (suc j) d le below = order-rises t xs o.1 i j d (omega (arith, le)) (omega (arith, below))

-- ---- items among others

-- an item put among others
pub adds-item : {X : Type 0} (front rest : List X) (item : X) → AddsOne (front ++ rest) (front ++ item ∷ rest) item
adds-item {X} front rest item = record { has = λ x. (to x, from x) }
  where
    alone : (x : X) → Contains (item ∷ []) x → x ≡ item
    alone x c = All-contains (λ y. y ≡ item) (item ∷ []) x (All-cons (λ y. y ≡ item) item [] refl (All-nil (λ y. y ≡ item))) c

    behind : (x : X) → Contains (item ∷ []) x ⊎ Contains rest x → (x ≡ item) ⊎ Contains (front ++ rest) x
    behind x (inl c) = inl (alone x c)
    behind x (inr c) = inr (Contains-append_right front rest x c)

    split : (x : X) → Contains front x ⊎ Contains (item ∷ rest) x → (x ≡ item) ⊎ Contains (front ++ rest) x
    split x (inl c) = inr (Contains-append_left front rest x c)
    split x (inr c) = behind x (Contains-append_cases (item ∷ []) rest x c)

    to : (x : X) → Contains (front ++ item ∷ rest) x → (x ≡ item) ⊎ Contains (front ++ rest) x
    to x c = split x (Contains-append_cases front (item ∷ rest) x c)

    join : (x : X) → Contains front x ⊎ Contains rest x → Contains (front ++ item ∷ rest) x
    join x (inl c) = Contains-append_left front (item ∷ rest) x c
    join x (inr c) = Contains-append_right front (item ∷ rest) x (Contains-append_right (item ∷ []) rest x c)

    from : (x : X) → (x ≡ item) ⊎ Contains (front ++ rest) x → Contains (front ++ item ∷ rest) x
    from x (inl is) = subst (Contains (front ++ item ∷ rest)) (sym is) (Contains-append_right front (item ∷ rest) item (0, omega arith, refl))
    from x (inr c) = join x (Contains-append_cases front rest x c)

-- an item goes that alone has its number
module _ {X : Type 0} (cmp : X → X → Ordering) (total : IsTotalOrder cmp) (number : X → ℕ) (n : ℕ) where
  pub found-goes : (xs : List X) (i : ℕ) → i < length xs → AreInOrder cmp xs → ((d : X) → number (get_or xs i d) ≡ n) → ((y z : X) → Contains xs y → Contains xs z → number y ≡ n → number z ≡ n → cmp y z ≡ Equal)
      → AreInOrder cmp (remove xs i) × All (λ y. number y ≢ n) (remove xs i) × ((item : X) → number item ≡ n → Contains xs item → AddsOne (remove xs i) xs item)
  found-goes [] i below ordered at alone = absurd (omega (arith, below))
  found-goes (x ∷ xs) i below ordered at alone = parted (take i (x ∷ xs)) (get_or (x ∷ xs) i x) (drop (suc i) (x ∷ xs)) whole (at x)
    where
      whole : x ∷ xs ≡ take i (x ∷ xs) ++ get_or (x ∷ xs) i x ∷ drop (suc i) (x ∷ xs)
      whole =
          let step : i + 1 ≡ suc i = omega arith in
          sym (take-append-drop (i + 1) (x ∷ xs))
          ∙ ap (λ ys. ys ++ drop (i + 1) (x ∷ xs)) (take_more (x ∷ xs) i x below)
          ∙ append_assoc (take i (x ∷ xs)) (get_or (x ∷ xs) i x ∷ []) (drop (i + 1) (x ∷ xs))
          ∙ ap (λ k. take i (x ∷ xs) ++ get_or (x ∷ xs) i x ∷ drop k (x ∷ xs)) step

      stays : (front : List X) (y : X) (rest : List X) (z : X) → Contains (front ++ rest) z → Contains (front ++ y ∷ rest) z
      stays front y rest z c = ⊎_elim
          (λ h. Contains-append_left front (y ∷ rest) z h)
          (λ h. Contains-append_right front (y ∷ rest) z (Contains-append_right (y ∷ []) rest z h))
          (Contains-append_cases front rest z c)

      is_it : (front : List X) (y : X) (rest : List X) (item : X) → All (λ y. number y ≢ n) (front ++ rest) → number item ≡ n → Contains (front ++ y ∷ rest) item → item ≡ y
      is_it front y rest item only eq c = ⊎_elim
          (λ h. absurd (All-contains (λ z. number z ≢ n) front item (all-front (λ z. number z ≢ n) front rest only) h eq))
          (λ h. behind_front (Contains-append_cases (y ∷ []) rest item h))
          (Contains-append_cases front (y ∷ rest) item c)
        where
          behind_front : Contains (y ∷ []) item ⊎ Contains rest item → item ≡ y
          behind_front (inl e) = All-contains (λ z. z ≡ y) (y ∷ []) item (All-cons (λ z. z ≡ y) y [] refl (All-nil (λ z. z ≡ y))) e
          behind_front (inr e) = absurd (All-contains (λ z. number z ≢ n) rest item (all-rest (λ z. number z ≢ n) front rest only) e eq)

      parted : (front : List X) (y : X) (rest : List X) → x ∷ xs ≡ front ++ y ∷ rest → number y ≡ n
          → AreInOrder cmp (front ++ rest) × All (λ y. number y ≢ n) (front ++ rest) × ((item : X) → number item ≡ n → Contains (x ∷ xs) item → AddsOne (front ++ rest) (x ∷ xs) item)
      parted front y rest is here =
          let in_parts : AreInOrder cmp (front ++ y ∷ rest) = subst (AreInOrder cmp) is ordered in
          let among : Contains (x ∷ xs) y = subst (λ zs. Contains zs y) (sym is) (Contains-append_right front (y ∷ rest) y (0, omega arith, refl)) in
          let only : All (λ z. number z ≢ n) (front ++ rest) =
          All-weaker (Contains (front ++ rest)) (λ z. number z ≢ n) (λ z c same.
          All-contains (λ z. cmp z y ≢ Equal) (front ++ rest) z (order-apart cmp total y front rest in_parts) c (alone z y (subst (λ zs. Contains zs z) (sym is) (stays front y rest z c)) among same here))
          (front ++ rest) (All-contains_itself (front ++ rest)) in (
            order-remove cmp total y front rest in_parts,
            only,
            λ item eq c.
                let same : item ≡ y = is_it front y rest item only eq (subst (λ zs. Contains zs item) is c) in
                subst (λ z. AddsOne (front ++ rest) (x ∷ xs) z) (sym same) (subst (λ zs. AddsOne (front ++ rest) zs y) (sym is) (adds-item front rest y)),
          )

  -- the first of the number goes
  pub first-goes : (xs : List X) (i : ℕ) → position (λ y. nat_eq (number y) n) xs ≡ Some i → AreInOrder cmp xs → ((y z : X) → Contains xs y → Contains xs z → number y ≡ n → number z ≡ n → cmp y z ≡ Equal)
      → AreInOrder cmp (remove xs i) × All (λ y. number y ≢ n) (remove xs i) × ((item : X) → number item ≡ n → Contains xs item → AddsOne (remove xs i) xs item)
  first-goes [] i at ordered alone = absurd (cc)
  first-goes (x ∷ xs) i at ordered alone =
      let first = λ (d : X). position-Some (λ y. nat_eq (number y) n) (x ∷ xs) i d at in
      found-goes (x ∷ xs) i (first x).0 ordered (λ d. eqb-true (number (get_or (x ∷ xs) i d)) n (first d).1) alone

-- none has a number of which there is no first
pub none-first : {X : Type 0} (number : X → ℕ) (n : ℕ) (xs : List X) → position (λ y. nat_eq (number y) n) xs ≡ None → All (λ y. number y ≢ n) xs
none-first {X} number n xs h = λ k d below. eqb-false (number (get_or xs k d)) n (fails_before_first test xs k d (omega (arith, below, past (nat_lt (position_or_len test xs) (length xs)) refl h)))
  where
    test : X → Bool
    test y = nat_eq (number y) n

    past : (b : Bool) → nat_lt (position_or_len test xs) (length xs) ≡ b → cond b (Some (position_or_len test xs)) None ≡ None → length xs ≤ position_or_len test xs
    past true e h = absurd (cc)
    past false e h = ltb-false (position_or_len test xs) (length xs) e

-- where a search ended that found nothing
pub gap-from_search : {X : Type 0} (f : X → Ordering) (xs : List X) (i : ℕ) → i ≤ length xs → AllWithin (λ y. f y ≡ Less) xs 0 i → AllWithin (λ y. f y ≡ Greater) xs i (length xs) → IsGap f xs i
gap-from_search f xs i within less more = record {
  within = within;
  before = λ k d below.
      let at : k < i = omega (arith, below, length-take-le i xs within) in
      rw (get_or-take i xs k d at) (less k d (omega arith) at);
  behind = λ k d below.
      rw (get_or-drop i xs k d) (more (i + k) d (omega arith) (omega (arith, below, length-drop i xs, within)));
}

-- what a search found
pub search-from : {X : Type 0} (f : X → Ordering) (xs : List X) (r : Result ℕ ℕ) → IsSearchInRange r (length xs) → IsBinarySearchResult f xs r → IsNonDecreasingBy (λ y. ordering_index (f y)) xs
    → IfOk r (HoldsAt (λ y. f y ≡ Equal) xs) × IfErr r (IsGap f xs)
search-from f xs (Ok i) within found rises = (found, tt)
search-from f xs (Err i) within found rises = let parts = found rises in (tt, gap-from_search f xs i within parts.0 parts.1)

pub search-found : {X : Type 0} (f : X → Ordering) (P : X → Type 0) → ((y : X) → f y ≡ Equal → P y) → (xs : List X) (r : Result ℕ ℕ) → IsBinarySearchResult f xs r → IfOk r (HoldsAt P xs)
search-found f P equal xs (Ok i) found = λ d. equal (get_or xs i d) (found d)
search-found f P equal xs (Err i) found = tt

-- a gap in an order that is told otherwise
pub gap-same : {X : Type 0} (f g : X → Ordering) (xs : List X) (i : ℕ) → All (λ y. f y ≡ g y) xs → IsGap f xs i → IsGap g xs i
gap-same f g xs i same gap = record {
  within = gap.within;
  before = λ k d below. sym (All-take (λ y. f y ≡ g y) i xs same k d below) ∙ gap.before k d below;
  behind = λ k d below. sym (All-drop (λ y. f y ≡ g y) i xs same k d below) ∙ gap.behind k d below;
}

-- in a gap nothing is as what was looked for
pub gap-apart : {X : Type 0} (f : X → Ordering) (P : X → Type 0) → ((y : X) → P y → f y ≡ Equal) → (xs : List X) (i : ℕ) → IsGap f xs i → All (λ y. ¬ P y) xs
gap-apart f P equal xs i gap =
    All-same (λ y. ¬ P y) xs (take i xs ++ drop i xs) (sym (take-append-drop i xs))
    (All-append (λ y. ¬ P y) (take i xs) (drop i xs)
    (All-weaker (λ y. f y ≡ Less) (λ y. ¬ P y) (λ y less p. (let tie = equal y p in cc)) (take i xs) gap.before)
    (All-weaker (λ y. f y ≡ Greater) (λ y. ¬ P y) (λ y more p. (let tie = equal y p in cc)) (drop i xs) gap.behind))

-- what rises does so however it is told
pub rises-same : {X : Type 0} (f g : X → Ordering) (xs : List X) → All (λ y. f y ≡ g y) xs → IsNonDecreasingBy (λ y. ordering_index (g y)) xs → IsNonDecreasingBy (λ y. ordering_index (f y)) xs
rises-same f g xs same rises i j d le below = rw (same i d (omega (arith, le, below)), same j d below) (rises i j d le below)
