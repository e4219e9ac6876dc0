-- One item more of what is told or written of each.
use Rattle.std.proofs.Common.{◌≡◌, ◌∙◌, ◌+◌, ◌<◌, ◌≤◌, ◌++◌, ◌∷◌, ◌&&◌, ◌||◌, [], ℕ, zero, suc, Bool, List, None, Option, Some, ap, ap₂, append-nil, append_assoc, arith, drop, false, flat_map, get_or, if◌then◌else◌, length, map, nat_eq, nat_lt, not, refl, replicate, set, sym, true, unwrap_or}
use Rattle.std.specs.List.{enumerate_from, join_by, list_all, list_any, range_with_len, slice_get, zip}
use Rattle.std.specs.Option.{option_eq, option_map, option_map_or, option_or}
use Rattle.std.proofs.lemmas.Bool.Decides.{nat_tests}
use Rattle.std.proofs.lemmas.List.{drop_all, drop_more, map_push}
use Rattle.std.proofs.lemmas.List.Concat.{flat_map-append}
use Rattle.std.proofs.lemmas.List.Folds.{list_all-append, list_any-append}
use Rattle.std.proofs.lemmas.Option.{same_Some, slice_get-get_or, slice_get-map, slice_get_within}
use Rattle.idl_changes.specs.Matched.{in_order_from, is_matched}
use Rattle.idl_changes.proofs.SideLemmas.{get-past}

-- ---- what is told of those that are left comes behind; the items are lent

pub left-told : {X Y : Type 0} (f : X → List Y) (items xs : List X) → items ≡ xs → (i : ℕ) (x : X) (out more all : List Y) → i < length items → x ≡ get_or items i x → more ≡ out ++ f x
    → out ++ flat_map f (drop i xs) ≡ all → more ++ flat_map f (drop (i + 1) xs) ≡ all
left-told {X} {Y} f items xs same i x out more all within is put so_far =
    let rest = flat_map f (drop (i + 1) xs) in
    let left : flat_map f (drop i xs) ≡ f x ++ rest =
    ap (λ (ys : List X). flat_map f (drop i ys)) (sym same)
    ∙ ap (flat_map f) (drop_more items i x within)
    ∙ ap₂ (λ (y : X) (ys : List X). f y ++ flat_map f (drop (i + 1) ys)) (sym is) same
    in
    ap (λ (o : List Y). o ++ rest) put ∙ append_assoc out (f x) rest ∙ ap (λ (t : List Y). out ++ t) (sym left) ∙ so_far

pub all-told : {X Y : Type 0} (f : X → List Y) (items xs : List X) → items ≡ xs → (i : ℕ) (out all : List Y) → length items ≤ i → out ++ flat_map f (drop i xs) ≡ all → out ≡ all
all-told {X} {Y} f items xs same i out all past so_far =
    sym (append-nil out) ∙ ap (λ (t : List Y). out ++ t) (sym (ap (λ (ys : List X). flat_map f (drop i ys)) (sym same) ∙ ap (flat_map f) (drop_all i items past))) ∙ so_far

-- by places
pub left-told-at : {X Y : Type 0} (f : ℕ × X → List Y) (items xs : List X) → items ≡ xs → (i : ℕ) (x : X) (out more all : List Y) → i < length items → x ≡ get_or items i x → more ≡ out ++ f (i, x)
    → out ++ flat_map f (enumerate_from i (drop i xs)) ≡ all → more ++ flat_map f (enumerate_from (i + 1) (drop (i + 1) xs)) ≡ all
left-told-at {X} {Y} f items xs same i x out more all within is put so_far =
    let rest = flat_map f (enumerate_from (i + 1) (drop (i + 1) xs)) in
    let left : flat_map f (enumerate_from i (drop i xs)) ≡ f (i, x) ++ rest =
    ap (λ (ys : List X). flat_map f (enumerate_from i (drop i ys))) (sym same)
    ∙ ap (λ (ys : List X). flat_map f (enumerate_from i ys)) (drop_more items i x within)
    ∙ ap₂ (λ (y : X) (ys : List X). f (i, y) ++ flat_map f (enumerate_from (i + 1) (drop (i + 1) ys))) (sym is) same
    in
    ap (λ (o : List Y). o ++ rest) put ∙ append_assoc out (f (i, x)) rest ∙ ap (λ (t : List Y). out ++ t) (sym left) ∙ so_far

pub all-told-at : {X Y : Type 0} (f : ℕ × X → List Y) (items xs : List X) → items ≡ xs → (i : ℕ) (out all : List Y) → length items ≤ i
    → out ++ flat_map f (enumerate_from i (drop i xs)) ≡ all → out ≡ all
all-told-at {X} {Y} f items xs same i out all past so_far =
    sym (append-nil out)
    ∙ ap (λ (t : List Y). out ++ t) (sym (ap (λ (ys : List X). flat_map f (enumerate_from i (drop i ys))) (sym same) ∙ ap (λ (ys : List X). flat_map f (enumerate_from i ys)) (drop_all i items past)))
    ∙ so_far

-- and beside those of another list
pub left-zipped : {X O Y : Type 0} (f : ℕ × (X × O) → List Y) (xs : List X) (os : List O) (i : ℕ) (o : O) (out more all : List Y) → i < length os → o ≡ get_or os i o
    → more ≡ out ++ option_map_or (λ (x : X). f (i, (x, o))) (slice_get xs i) []
    → out ++ flat_map f (enumerate_from i (zip (drop i xs) (drop i os))) ≡ all → more ++ flat_map f (enumerate_from (i + 1) (zip (drop (i + 1) xs) (drop (i + 1) os))) ≡ all
left-zipped {X} {O} {Y} f xs os i o out more all within is put so_far = by (slice_get xs i) refl put
  where
    by : (found : Option X) → slice_get xs i ≡ found → more ≡ out ++ option_map_or (λ (x : X). f (i, (x, o))) found []
        → more ++ flat_map f (enumerate_from (i + 1) (zip (drop (i + 1) xs) (drop (i + 1) os))) ≡ all
    by None at h =
        let past = get-past xs i at in
        let beyond : length xs ≤ i + 1 = omega (arith, past) in
        ap₂ (λ (ts : List Y) (ys : List X). ts ++ flat_map f (enumerate_from (i + 1) (zip ys (drop (i + 1) os)))) (h ∙ append-nil out) (drop_all (i + 1) xs beyond)
        ∙ sym (ap (λ (ys : List X). out ++ flat_map f (enumerate_from i (zip ys (drop i os)))) (drop_all i xs past))
        ∙ so_far
    by (Some x) at h =
        let rest = flat_map f (enumerate_from (i + 1) (zip (drop (i + 1) xs) (drop (i + 1) os))) in
        let there = slice_get_within xs i x at in
        let item : get_or xs i x ≡ x = same_Some (get_or xs i x) x (sym (slice_get-get_or xs i x there) ∙ at) in
        let left : flat_map f (enumerate_from i (zip (drop i xs) (drop i os))) ≡ f (i, (x, o)) ++ rest =
        ap₂ (λ (ys : List X) (ps : List O). flat_map f (enumerate_from i (zip ys ps)))
        (drop_more xs i x there ∙ ap (λ (y : X). y ∷ drop (i + 1) xs) item)
        (drop_more os i o within ∙ ap (λ (p : O). p ∷ drop (i + 1) os) (sym is))
        in
        ap (λ (ts : List Y). ts ++ rest) h ∙ append_assoc out (f (i, (x, o))) rest ∙ ap (λ (ts : List Y). out ++ ts) (sym left) ∙ so_far

zip-none : {X O : Type 0} (xs : List X) (none : List O) → none ≡ [] → zip xs none ≡ []
zip-none [] none is = refl
zip-none {X} {O} (x ∷ xs) none is = ap (λ (os : List O). zip (x ∷ xs) os) is

pub all-zipped : {X O Y : Type 0} (f : ℕ × (X × O) → List Y) (xs : List X) (os : List O) (i : ℕ) (out all : List Y) → length os ≤ i
    → out ++ flat_map f (enumerate_from i (zip (drop i xs) (drop i os))) ≡ all → out ≡ all
all-zipped {X} {O} {Y} f xs os i out all past so_far =
    sym (append-nil out)
    ∙ ap (λ (t : List Y). out ++ t) (sym (ap (λ (ps : List (X × O)). flat_map f (enumerate_from i ps)) (zip-none (drop i xs) (drop i os) (drop_all i os past))))
    ∙ so_far

-- ---- whether those that are left pass a test, the items are lent

pub all-next : (test : ℕ → Bool) (items xs : List ℕ) → items ≡ xs → (i : ℕ) → i < length items → list_all test (drop i xs) ≡ (test (get_or items i 0) && list_all test (drop (i + 1) xs))
all-next test items xs same i within =
    ap (λ (ys : List ℕ). list_all test (drop i ys)) (sym same)
    ∙ ap (list_all test) (drop_more items i 0 within)
    ∙ ap (λ (ys : List ℕ). test (get_or items i 0) && list_all test (drop (i + 1) ys)) same

pub all-left : (test : ℕ → Bool) (items xs : List ℕ) → items ≡ xs → (i : ℕ) → length items ≤ i → list_all test (drop i xs) ≡ true
all-left test items xs same i past = ap (λ (ys : List ℕ). list_all test (drop i ys)) (sym same) ∙ ap (list_all test) (drop_all i items past)

-- and what is told of them
pub all-told-next : (test : ℕ → Bool) (f : ℕ → List ℕ) (items xs : List ℕ) → items ≡ xs → (i : ℕ) → i < length items
    → list_all test (flat_map f (drop i xs)) ≡ (list_all test (f (get_or items i 0)) && list_all test (flat_map f (drop (i + 1) xs)))
all-told-next test f items xs same i within =
    ap (λ (ys : List ℕ). list_all test (flat_map f (drop i ys))) (sym same)
    ∙ ap (λ (ys : List ℕ). list_all test (flat_map f ys)) (drop_more items i 0 within)
    ∙ list_all-append test (f (get_or items i 0)) (flat_map f (drop (i + 1) items))
    ∙ ap (λ (ys : List ℕ). list_all test (f (get_or items i 0)) && list_all test (flat_map f (drop (i + 1) ys))) same

pub all-told-left : (test : ℕ → Bool) (f : ℕ → List ℕ) (items xs : List ℕ) → items ≡ xs → (i : ℕ) → length items ≤ i → list_all test (flat_map f (drop i xs)) ≡ true
all-told-left test f items xs same i past =
    ap (λ (ys : List ℕ). list_all test (flat_map f (drop i ys))) (sym same) ∙ ap (λ (ys : List ℕ). list_all test (flat_map f ys)) (drop_all i items past)

-- nothing is left
pub none-left : {X : Type 0} (xs : List X) → length xs ≡ 0 → xs ≡ []
none-left [] is = refl
none-left (x ∷ xs) is = absurd (omega (arith, is))

-- where one is told of only if a test fails
pub told-unless : {Y : Type 0} (b : Bool) (out more told : List Y) → (b ≡ true → more ≡ out) → (b ≡ false → more ≡ out ++ told) → more ≡ out ++ (if b then [] else told)
told-unless true out more told stays puts = stays refl ∙ sym (append-nil out)
told-unless false out more told stays puts = puts refl

-- ---- names with a word between

pub joined-more : {X A : Type 0} (f : X → List A) (sep : List A) (xs : List X) (x : X)
    → join_by f sep (xs ++ x ∷ []) ≡ (join_by f sep xs ++ (if nat_eq (length xs) 0 then [] else sep)) ++ f x
joined-more f sep [] x = append-nil (f x)
joined-more {X} {A} f sep (y ∷ ys) x =
    let between = λ (z : X). sep ++ f z in
    let last : flat_map between (x ∷ []) ≡ sep ++ f x = append-nil (sep ++ f x) in
    let rest : flat_map between (ys ++ x ∷ []) ≡ flat_map between ys ++ (sep ++ f x) = flat_map-append between ys (x ∷ []) ∙ ap (λ (t : List A). flat_map between ys ++ t) last in
    let apart : nat_eq (length (y ∷ ys)) 0 ≡ false = grind (arith, nat_tests) in
    ap (λ (t : List A). f y ++ t) rest
    ∙ sym (append_assoc (f y) (flat_map between ys) (sep ++ f x))
    ∙ sym (append_assoc (f y ++ flat_map between ys) sep (f x))
    ∙ sym (ap (λ (b : Bool). ((f y ++ flat_map between ys) ++ (if b then [] else sep)) ++ f x) apart)

-- ---- which new items belong to an old one

or-false : (b : Bool) → (b || false) ≡ b
or-false true = refl
or-false false = refl

or-true : (b : Bool) → (b || true) ≡ true
or-true true = refl
or-true false = refl

matched-more : (found : List (Option ℕ)) (o : Option ℕ) (k : ℕ) → is_matched (found ++ o ∷ []) k ≡ (is_matched found k || option_eq nat_eq o (Some k))
unfolding is_matched
matched-more found o k =
    list_any-append (λ (place : Option ℕ). option_eq nat_eq place (Some k)) found (o ∷ [])
    ∙ ap (λ (b : Bool). list_any (λ (place : Option ℕ). option_eq nat_eq place (Some k)) found || b) (or-false (option_eq nat_eq o (Some k)))

-- another one than these changes nothing
unmarked : (found : List (Option ℕ)) (o : Option ℕ) (m count : ℕ) → ((k : ℕ) → m ≤ k → option_eq nat_eq o (Some k) ≡ false)
    → map (is_matched (found ++ o ∷ [])) (range_with_len m count) ≡ map (is_matched found) (range_with_len m count)
unmarked found o m zero other = refl
unmarked found o m (suc count) other =
    let own : m ≤ m = omega arith in
    let first : is_matched (found ++ o ∷ []) m ≡ is_matched found m = matched-more found o m ∙ ap (λ (b : Bool). is_matched found m || b) (other m own) ∙ or-false (is_matched found m) in
    let later : (k : ℕ) → m + 1 ≤ k → option_eq nat_eq o (Some k) ≡ false = λ k past. (let below : m ≤ k = omega (arith, past) in other k below) in
    ap₂ (λ (b : Bool) (bs : List Bool). b ∷ bs) first (unmarked found o (m + 1) count later)

pub marked-none : (found : List (Option ℕ)) (count : ℕ) → map (is_matched (found ++ None ∷ [])) (range_with_len 0 count) ≡ map (is_matched found) (range_with_len 0 count)
marked-none found count = unmarked found None 0 count (λ k low. refl)

marked-from : (found : List (Option ℕ)) (n k m count : ℕ) → m ≡ n + k
    → set (map (is_matched found) (range_with_len n count)) k true ≡ map (is_matched (found ++ Some m ∷ [])) (range_with_len n count)
marked-from found n k m zero is = refl
marked-from found n zero m (suc count) is =
    let here : nat_eq m n ≡ true = grind (arith, nat_tests, is) in
    let first : is_matched (found ++ Some m ∷ []) n ≡ true = matched-more found (Some m) n ∙ ap (λ (b : Bool). is_matched found n || b) here ∙ or-true (is_matched found n) in
    let apart : (j : ℕ) → n + 1 ≤ j → nat_eq m j ≡ false = λ j past. grind (arith, nat_tests, is, past) in
    ap₂ (λ (b : Bool) (bs : List Bool). b ∷ bs) (sym first) (sym (unmarked found (Some m) (n + 1) count apart))
marked-from found n (suc k) m (suc count) is =
    let apart : nat_eq m n ≡ false = grind (arith, nat_tests, is) in
    let first : is_matched (found ++ Some m ∷ []) n ≡ is_matched found n = matched-more found (Some m) n ∙ ap (λ (b : Bool). is_matched found n || b) apart ∙ or-false (is_matched found n) in
    let place : m ≡ n + 1 + k = omega (arith, is) in
    ap₂ (λ (b : Bool) (bs : List Bool). b ∷ bs) (sym first) (marked-from found (n + 1) k m count place)

pub marked-more : (found : List (Option ℕ)) (k count : ℕ) → set (map (is_matched found) (range_with_len 0 count)) k true ≡ map (is_matched (found ++ Some k ∷ [])) (range_with_len 0 count)
marked-more found k count = let place : k ≡ 0 + k = omega arith in marked-from found 0 k k count place

pub marked-by : (found : List (Option ℕ)) (o : Option ℕ) (count : ℕ) (old new : List Bool) → old ≡ map (is_matched found) (range_with_len 0 count) → new ≡ option_map_or (λ k. set old k true) o old
    → new ≡ map (is_matched (found ++ o ∷ [])) (range_with_len 0 count)
marked-by found None count old new are put = put ∙ are ∙ sym (marked-none found count)
marked-by found (Some k) count old new are put = put ∙ ap (λ (bs : List Bool). set bs k true) are ∙ marked-more found k count

range-at : (a n k m : ℕ) → k < n → m ≡ a + k → slice_get (range_with_len a n) k ≡ Some m
range-at a zero k m within is = absurd (omega (arith, within))
range-at a (suc n) zero m within is = let same : a ≡ m = omega (arith, is) in ap (λ (j : ℕ). Some j) same
range-at a (suc n) (suc k) m within is =
    let below : k < n = omega (arith, within) in
    let next : m ≡ a + 1 + k = omega (arith, is) in
    range-at (a + 1) n k m below next

pub mark-there : (found : List (Option ℕ)) (count k : ℕ) → k < count → unwrap_or (slice_get (map (is_matched found) (range_with_len 0 count)) k) false ≡ is_matched found k
mark-there found count k within =
    let place : k ≡ 0 + k = omega arith in
    ap (λ (o : Option Bool). unwrap_or o false) (slice_get-map (is_matched found) (range_with_len 0 count) k ∙ ap (option_map (is_matched found)) (range-at 0 count k k within place))

pub none-marked : (n count : ℕ) → replicate count false ≡ map (is_matched []) (range_with_len n count)
unfolding is_matched
none-marked n zero = refl
none-marked n (suc count) = ap (λ (bs : List Bool). false ∷ bs) (none-marked (n + 1) count)

-- ---- places in a row, with one more

range-more : (a n : ℕ) → range_with_len a (suc n) ≡ range_with_len a n ++ (a + n) ∷ []
range-more a zero = let e : a ≡ a + 0 = omega arith in ap (λ (k : ℕ). k ∷ []) e
range-more a (suc n) = let e : a + 1 + n ≡ a + suc n = omega arith in ap (λ (ks : List ℕ). a ∷ ks) (range-more (a + 1) n ∙ ap (λ (k : ℕ). range_with_len (a + 1) n ++ k ∷ []) e)

pub places-more : (n : ℕ) → map (λ (k : ℕ). Some k) (range_with_len 0 (n + 1)) ≡ map (λ (k : ℕ). Some k) (range_with_len 0 n) ++ Some n ∷ []
places-more n =
    let count : n + 1 ≡ suc n = omega arith in
    let place : 0 + n ≡ n = omega arith in
    ap (λ (c : ℕ). map (λ (k : ℕ). Some k) (range_with_len 0 c)) count
    ∙ ap (map (λ (k : ℕ). Some k)) (range-more 0 n)
    ∙ map_push (λ (k : ℕ). Some k) (range_with_len 0 n) (0 + n)
    ∙ ap (λ (k : ℕ). map (λ (j : ℕ). Some j) (range_with_len 0 n) ++ Some k ∷ []) place

-- ---- places in order behind the last

abbrev pub behind : Option ℕ → Option ℕ → Bool
behind place last = option_map_or (λ k. option_map_or (λ n. nat_lt n k) last true) place true

abbrev pub bound_behind : Option ℕ → ℕ
bound_behind last = option_map_or (λ n. n + 1) last 0

not-below : (k : ℕ) (last : Option ℕ) → not (nat_lt k (bound_behind last)) ≡ option_map_or (λ (n : ℕ). nat_lt n k) last true
not-below k None = above k
  where
    above : (k : ℕ) → not (nat_lt k 0) ≡ true
    above k = grind (arith, nat_tests)
not-below k (Some j) = turned k j
  where
    turned : (k j : ℕ) → not (nat_lt k (j + 1)) ≡ nat_lt j k
    turned k j = grind (arith, nat_tests)

order-by : (o last : Option ℕ) (rest : List (Option ℕ)) → in_order_from (bound_behind last) (o ∷ rest) ≡ (behind o last && in_order_from (bound_behind (option_or o last)) rest)
order-by None last rest = refl
order-by (Some k) last rest = ap (λ (b : Bool). b && in_order_from (k + 1) rest) (not-below k last)

pub order-next : (found : List (Option ℕ)) (i : ℕ) (o last : Option ℕ) → i < length found → o ≡ get_or found i o
    → in_order_from (bound_behind last) (drop i found) ≡ (behind o last && in_order_from (bound_behind (option_or o last)) (drop (i + 1) found))
order-next found i o last within is =
    ap (in_order_from (bound_behind last)) (drop_more found i o within ∙ ap (λ (p : Option ℕ). p ∷ drop (i + 1) found) (sym is))
    ∙ order-by o last (drop (i + 1) found)
