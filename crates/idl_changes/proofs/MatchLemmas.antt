-- Lists of which no item is gone, none is new, and none in another order: those belong together that stand at one place.
use Rattle.std.proofs.Common.{◌≡◌, ◌∙◌, ◌+◌, ◌-◌, ◌<◌, ◌≤◌, ◌++◌, ◌∷◌, ◌||◌, [], ℕ, zero, suc, Bool, List, None, Option, Some, ap, ap₂, arith, codes, false, flat_map, length, map, nat_eq, nat_lt, not, refl, subst, sym, true}
use Rattle.std.specs.List.{enumerate_from, list_any, range_with_len, slice_get, zip}
use Rattle.std.specs.Option.{option_and_then, option_eq}
use Rattle.std.proofs.lemmas.Bool.{false≢true}
use Rattle.std.proofs.lemmas.Bool.Decides.{nat_tests}
use Rattle.std.proofs.lemmas.Option.{none-some, same_Some, slice_get_past, slice_get_within}
use Rattle.idl_base.specs.Exact.{both, same_number}
use Rattle.idl_changes.specs.Differences.{in_a_row, item_differences, item_part, list_differences, name_differences, new_differences, order_differences, told}
use Rattle.idl_changes.specs.Matched.{in_order, in_order_from, is_matched, matched, matches}
use Rattle.idl_changes.specs.Rows.{item_word, weights_of}
use Rattle.idl_changes.specs.declared.change.Difference.{Difference}
use Rattle.idl_changes.specs.declared.change.Turn.TheVariants as turn
use Rattle.idl_changes.specs.declared.rows.Item.{Item}
use Rattle.idl_changes.specs.declared.rows.Line.TheVariants as line
use Rattle.idl_changes.specs.declared.rows.Weights.{Weights}
use Rattle.idl_changes.proofs.AllLemmas.{All-told}
use Rattle.idl_changes.proofs.TableLemmas.{get-within}
use Rattle.idl_changes.proofs.WeightLemmas.{Lacks, lacks-back, lacks-front, lacks-none, lacks-unless}

-- ---- places in order that are all taken

abbrev pub Taken : List (Option ℕ) → ℕ → Type 0
Taken found k = list_any (λ place. option_eq nat_eq place (Some k)) found ≡ true

-- those in order from a number on are none below it
taken-above : (n k : ℕ) (found : List (Option ℕ)) → in_order_from n found ≡ true → Taken found k → n ≤ k
taken-above n k [] order taken = cc
taken-above n k (None ∷ found) order taken = taken-above n k found order taken
taken-above n k (Some j ∷ found) order taken =
    let parts = both (not (nat_lt j n)) (in_order_from (j + 1) found) order in
    let above : n ≤ j = grind (arith, nat_tests, parts.0) in
    by (nat_eq j k) refl above (taken-above (j + 1) k found parts.1) taken
  where
    by : (b : Bool) → nat_eq j k ≡ b → n ≤ j → (Taken found k → j + 1 ≤ k) → (b || list_any (λ (place : Option ℕ). option_eq nat_eq place (Some k)) found) ≡ true → n ≤ k
    by true e above rest h = let same = same_number j k e in omega (arith, above, same)
    by false e above rest h = let more = rest h in omega (arith, above, more)

-- each is there, and below a number
abbrev pub AreBelow : ℕ → List (Option ℕ) → Type 0
AreBelow m found = (i : ℕ) (o : Option ℕ) → slice_get found i ≡ Some o → (k : ℕ) × (o ≡ Some k) × (k < m)

pub all-in-place : (n m : ℕ) (found : List (Option ℕ)) → AreBelow m found → in_order_from n found ≡ true → ((k : ℕ) → n ≤ k → k < m → Taken found k)
    → found ≡ map (λ (k : ℕ). Some k) (range_with_len n (m - n))
all-in-place n m [] below order taken = by (nat_lt n m) refl
  where
    by : (b : Bool) → nat_lt n m ≡ b → [] ≡ map (λ (k : ℕ). Some k) (range_with_len n (m - n))
    by true e =
        let within : n < m = grind (arith, nat_tests, e) in
        let own : n ≤ n = omega arith in
        absurd (false≢true (taken n own within))
    by false e =
        let past : m - n ≡ 0 = grind (arith, nat_tests, e) in
        sym (ap (λ (c : ℕ). map (λ (k : ℕ). Some k) (range_with_len n c)) past)
all-in-place n m (None ∷ found) below order taken = let none = below 0 None refl in absurd (none-some none.0 none.1)
all-in-place n m (Some j ∷ found) below order taken =
    let parts = both (not (nat_lt j n)) (in_order_from (j + 1) found) order in
    let above : n ≤ j = grind (arith, nat_tests, parts.0) in
    let first = below 0 (Some j) refl in
    let same_first = same_Some j first.0 first.1 in
    let within : n < m = omega (arith, above, same_first, first.2) in
    let own : n ≤ n = omega arith in
    let here : j ≡ n = by (nat_eq j n) refl parts.1 (taken n own within) in
    let rest_below : AreBelow m found = λ i o at. below (suc i) o at in
    let rest_order : in_order_from (n + 1) found ≡ true = subst (λ (k : ℕ). in_order_from (k + 1) found ≡ true) here parts.1 in
    let rest_taken : (k : ℕ) → n + 1 ≤ k → k < m → Taken found k = λ k low high. later (nat_eq j k) k refl here low (taken k (omega (arith, low)) high) in
    let rest = all-in-place (n + 1) m found rest_below rest_order rest_taken in
    let count : m - n ≡ suc (m - (n + 1)) = omega (arith, within) in
    ap₂ (λ (k : ℕ) (ks : List (Option ℕ)). Some k ∷ ks) here rest ∙ sym (ap (λ (c : ℕ). map (λ (k : ℕ). Some k) (range_with_len n c)) count)
  where
    by : (b : Bool) → nat_eq j n ≡ b → in_order_from (j + 1) found ≡ true → (b || list_any (λ (place : Option ℕ). option_eq nat_eq place (Some n)) found) ≡ true → j ≡ n
    by true e order_rest h = same_number j n e
    by false e order_rest h =
        let more = taken-above (j + 1) n found order_rest h in
        let parts = both (not (nat_lt j n)) (in_order_from (j + 1) found) order in
        let above : n ≤ j = grind (arith, nat_tests, parts.0) in
        absurd (omega (arith, more, above))

    later : (b : Bool) (k : ℕ) → nat_eq j k ≡ b → j ≡ n → n + 1 ≤ k → (b || list_any (λ (place : Option ℕ). option_eq nat_eq place (Some k)) found) ≡ true → Taken found k
    later true k e here low h = let same = same_number j k e in absurd (omega (arith, same, here, low))
    later false k e here low h = h

-- ---- items that belong together

range-length : (n c : ℕ) → length (map (λ (j : ℕ). Some j) (range_with_len n c)) ≡ c
range-length n zero = refl
range-length n (suc c) = ap suc (range-length (n + 1) c)

-- those at a place, if there are such
abbrev pub Paired : {X : Type 0} → (X → X → Type 0) → Option X → Option X → Type 0
Paired P None None = Unit {0}
Paired P None (Some y) = ⊥
Paired P (Some x) None = ⊥
Paired P (Some x) (Some y) = P x y

range-in : (n c k : ℕ) → k < c → slice_get (map (λ (j : ℕ). Some j) (range_with_len n c)) k ≡ Some (Some (n + k))
range-in n zero k within = absurd (omega (arith, within))
range-in n (suc c) zero within = let e : n ≡ n + 0 = omega arith in ap (λ (j : ℕ). Some (Some j)) e
range-in n (suc c) (suc k) within =
    let below : k < c = omega (arith, within) in
    let e : n + 1 + k ≡ n + suc k = omega arith in
    range-in (n + 1) c k below ∙ ap (λ (j : ℕ). Some (Some j)) e

range-out : (n c k : ℕ) → slice_get (map (λ (j : ℕ). Some j) (range_with_len n c)) k ≡ None → c ≤ k
range-out n zero k is = omega arith
range-out n (suc c) zero is = cc
range-out n (suc c) (suc k) is = let rest = range-out (n + 1) c k is in omega (arith, rest)

module _ {X : Type 0} (name : X → List ℕ) (f : ℕ × List ℕ → Option ℕ) where
  found-at : (n i : ℕ) (xs : List X) (x : X) → slice_get xs i ≡ Some x → slice_get (map f (enumerate_from n (map name xs))) i ≡ Some (f (n + i, name x))
  found-at n i [] x at = cc
  found-at n zero (y ∷ ys) x at = let e : n ≡ n + 0 = omega arith in ap₂ (λ (j : ℕ) (z : X). Some (f (j, name z))) e (same_Some y x at)
  found-at n (suc i) (y ∷ ys) x at =
      let e : n + 1 + i ≡ n + suc i = omega arith in
      found-at (n + 1) i ys x at ∙ ap (λ (j : ℕ). Some (f (j, name x))) e

  found-none : (n i : ℕ) (xs : List X) → slice_get xs i ≡ None → slice_get (map f (enumerate_from n (map name xs))) i ≡ None
  found-none n i [] at = refl
  found-none n zero (y ∷ ys) at = cc
  found-none n (suc i) (y ∷ ys) at = found-none (n + 1) i ys at

  found-of : (n i : ℕ) (xs : List X) (o : Option ℕ) → slice_get (map f (enumerate_from n (map name xs))) i ≡ Some o → (x : X) × (slice_get xs i ≡ Some x)
  found-of n i [] o at = cc
  found-of n zero (y ∷ ys) o at = (y, refl)
  found-of n (suc i) (y ∷ ys) o at = found-of (n + 1) i ys o at

zip-at : {X Y : Type 0} (xs : List X) (ys : List Y) (i : ℕ) (x : X) (y : Y) → slice_get xs i ≡ Some x → slice_get ys i ≡ Some y → slice_get (zip xs ys) i ≡ Some (x, y)
zip-at [] ys i x y at there = cc
zip-at (a ∷ xs) [] i x y at there = cc
zip-at (a ∷ xs) (b ∷ ys) zero x y at there = λ j. Some (same_Some a x at j, same_Some b y there j)
zip-at (a ∷ xs) (b ∷ ys) (suc i) x y at there = zip-at xs ys i x y at there

-- lists of which no difference has a weight that those have that are gone, or new, or in another order
module _ {X : Type 0} (weight : Weights → Bool) (item : Item) (name : X → List ℕ) (both_told : X → X → List Difference)
    (gone : weight (weights_of (line.ItemGone item)) ≡ true) (added : weight (weights_of (line.ItemNew item)) ≡ true) (order : weight (weights_of (line.ItemOrder item)) ≡ true)
    (xs ys : List X) (all : Lacks weight (list_differences item name both_told xs ys)) where
  Found : List (Option ℕ)
  Found = map (λ (p : ℕ × List ℕ). matched (map name xs) (map name ys) p.0 p.1) (enumerate_from 0 (map name xs))

  Items : List Difference
  Items = flat_map (λ (p : ℕ × (X × Option ℕ)). item_differences item name both_told p.0 p.1.0 (option_and_then (slice_get ys) p.1.1)) (enumerate_from 0 (zip xs Found))

  News : List Difference
  News = flat_map (λ (p : ℕ × X). new_differences item name Found p.0 p.1) (enumerate_from 0 ys)

  parts-lack : Lacks weight Items × Lacks weight News × Lacks weight (order_differences item name Found xs ys)
  unfolding list_differences matches Items News Found
  parts-lack =
      let rest = lacks-back weight Items (News ++ order_differences item name Found xs ys) all in (
        lacks-front weight Items (News ++ order_differences item name Found xs ys) all,
        lacks-front weight News (order_differences item name Found xs ys) rest,
        lacks-back weight News (order_differences item name Found xs ys) rest,
      )

  -- each old one belongs to one, and nothing is told of the two
  old-one : (i : ℕ) (x : X) (o : Option ℕ) → slice_get xs i ≡ Some x → slice_get Found i ≡ Some o
      → (k : ℕ) × (y : X) × (o ≡ Some k) × (slice_get ys k ≡ Some y) × Lacks weight (both_told x y)
  unfolding Items
  old-one i x o at there =
      let place : i ≡ 0 + i = omega arith in
      let told = All-told (λ (d : Difference). weight d.weights ≡ false)
      (λ (n : ℕ) (q : X × Option ℕ). item_differences item name both_told n q.0 (option_and_then (slice_get ys) q.1)) 0 i i (zip xs Found) (x, o) place (zip-at xs Found i x o at there) parts-lack.0
      in
      by o refl told
    where
      pair : (k : ℕ) → o ≡ Some k → (found : Option X) → slice_get ys k ≡ found → Lacks weight (item_differences item name both_told i x found)
          → (j : ℕ) × (y : X) × (o ≡ Some j) × (slice_get ys j ≡ Some y) × Lacks weight (both_told x y)
      pair k same None is told = absurd (lacks-none weight (line.ItemGone item) (item_part item (name x)) turn.Gone gone told)
      pair k same (Some y) is told = (k, y, same, is, lacks-back weight (name_differences item i (name x) (name y)) (both_told x y) told)

      by : (p : Option ℕ) → o ≡ p → Lacks weight (item_differences item name both_told i x (option_and_then (slice_get ys) p))
          → (j : ℕ) × (y : X) × (o ≡ Some j) × (slice_get ys j ≡ Some y) × Lacks weight (both_told x y)
      by None same told = absurd (lacks-none weight (line.ItemGone item) (item_part item (name x)) turn.Gone gone told)
      by (Some k) same told = pair k same (slice_get ys k) refl told

  found-below : AreBelow (length ys) Found
  unfolding Found
  found-below i o at =
      let x = found-of name (λ (p : ℕ × List ℕ). matched (map name xs) (map name ys) p.0 p.1) 0 i xs o at in
      let one = old-one i x.0 o x.1 at in
      (one.0, one.2, slice_get_within ys one.0 one.1 one.3)

  found-taken : (k : ℕ) → 0 ≤ k → k < length ys → Taken Found k
  unfolding News is_matched
  found-taken k low high = by (slice_get ys k) refl
    where
      by : (found : Option X) → slice_get ys k ≡ found → Taken Found k
      by None is = let there = get-within ys k high in absurd (none-some there.0 (sym is ∙ there.1))
      by (Some y) is =
          let place : k ≡ 0 + k = omega arith in
          let told = All-told (λ (d : Difference). weight d.weights ≡ false) (new_differences item name Found) 0 k k ys y place is parts-lack.1 in
          lacks-unless weight (is_matched Found k) (line.ItemNew item) (item_part item (name y)) (turn.NewAt (k + 1)) added told

  found-in-order : in_order_from 0 Found ≡ true
  unfolding in_order
  found-in-order = lacks-unless weight (in_order Found) (line.ItemOrder item) (codes "order of " ++ (item_word item ++ codes "s")) (turn.Changed (in_a_row name xs) (in_a_row name ys)) order parts-lack.2

  found-all : Found ≡ map (λ (k : ℕ). Some k) (range_with_len 0 (length ys))
  found-all =
      let e : length ys - 0 ≡ length ys = omega arith in
      all-in-place 0 (length ys) Found found-below found-in-order found-taken ∙ ap (λ (c : ℕ). map (λ (k : ℕ). Some k) (range_with_len 0 c)) e

  -- so those belong together that stand at one place
  pub all-paired : (k : ℕ) → Paired (λ (x y : X). Lacks weight (both_told x y)) (slice_get xs k) (slice_get ys k)
  unfolding Found
  all-paired k = by (slice_get xs k) refl
    where
      f : ℕ × List ℕ → Option ℕ
      f p = matched (map name xs) (map name ys) p.0 p.1

      by : (first : Option X) → slice_get xs k ≡ first → Paired (λ (x y : X). Lacks weight (both_told x y)) first (slice_get ys k)
      by None is =
          let none = found-none name f 0 k xs is in
          let past = range-out 0 (length ys) k (sym (ap (λ (l : List (Option ℕ)). slice_get l k) found-all) ∙ none) in
          subst (Paired (λ (x y : X). Lacks weight (both_told x y)) None) (sym (slice_get_past ys k past)) tt
      by (Some x) is =
          let o = f (0 + k, name x) in
          let there : slice_get Found k ≡ Some o = found-at name f 0 k xs x is in
          let one = old-one k x o is there in
          let within : one.0 < length ys = slice_get_within ys one.0 one.1 one.3 in
          let same = same_Some o (Some (0 + k)) (sym there ∙ ap (λ (l : List (Option ℕ)). slice_get l k) found-all ∙ range-in 0 (length ys) k (place-within there)) in
          let here : one.0 ≡ k = (let e : 0 + k ≡ k = omega arith in same_Some one.0 k (sym one.2 ∙ same ∙ ap Some e)) in
          subst (Paired (λ (x y : X). Lacks weight (both_told x y)) (Some x)) (sym (ap (slice_get ys) (sym here) ∙ one.3)) one.4
        where
          place-within : slice_get Found k ≡ Some (f (0 + k, name x)) → k < length ys
          place-within at =
              let length-is : length Found ≡ length ys = ap length found-all ∙ range-length 0 (length ys) in
              let within = slice_get_within Found k (f (0 + k, name x)) at in
              omega (arith, within, length-is)
