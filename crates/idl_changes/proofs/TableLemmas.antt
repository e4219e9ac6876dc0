-- Tables of what is looked up often, with one entry more than before.
use Rattle.std.proofs.Common.{Bor, ◌≡◌, ◌∙◌, ◌+◌, ◌<◌, ◌≤◌, ◌++◌, ◌∷◌, ◌&&◌, ◌||◌, [], ℕ, zero, suc, Bool, List, None, Option, Some, ap, ap₂, append-nil, arith, cond, false, filter, get_or, if◌then◌else◌, length, map, nat_eq, nat_lt, not, position, refl, subst, sym, take, true, unwrap_or}
use Rattle.std.specs.Cmp.Lexicographic.{bytes_decides}
use Rattle.std.specs.List.{enumerate_from, list_any, position_or_len, slice_get}
use Rattle.std.specs.Map.{lookup}
use Rattle.std.specs.Option.{is_some, option_copied, option_map, option_or}
use Rattle.std.specs.Str.{bytes_eq}
use Rattle.std.proofs.lemmas.Bool.Decides.{nat_tests}
use Rattle.std.proofs.lemmas.List.{length-take-le, take_all, take_more}
use Rattle.std.proofs.lemmas.Option.{same_Some, slice_get-get_or, slice_get_within}
use Rattle.idl_changes.specs.Keys.{numbered_eq}
use Rattle.idl_changes.specs.Listing.{has_id, is_called, next_by_id, places_where}
use Rattle.idl_changes.specs.Tables.{AreCounts, AreIds, each}
use Rattle.idl_changes.specs.declared.keys.NumberedText.{NumberedText}
use Rattle.idl_repo.specs.declared.details.row_tree.RowTree.{RowTree}

-- ---- what a function gives of each entry and its place

each-from : {X Y : Type 0} (f : ℕ → X → Y) (n i m : ℕ) (xs : List X) → m ≡ n + i
    → slice_get (map (λ (p : ℕ × X). f p.0 p.1) (enumerate_from n xs)) i ≡ option_map (f m) (slice_get xs i)
each-from f n i m [] is = refl
each-from f n zero m (x ∷ xs) is =
    let place : n ≡ m = omega (arith, is) in
    ap (λ (k : ℕ). Some (f k x)) place
each-from f n (suc i) m (x ∷ xs) is =
    let place : m ≡ n + 1 + i = omega (arith, is) in
    each-from f (n + 1) i m xs place

pub slice_get-each : {Y : Type 0} (f : ℕ → RowTree → Y) (L : List RowTree) (i : ℕ) → slice_get (each f L) i ≡ option_map (f i) (slice_get L i)
slice_get-each f L i = let place : i ≡ 0 + i = omega arith in each-from f 0 i i L place

-- those so far, and the next
pub place-next : {X Y : Type 0} (f : ℕ → X → Y) (xs : List X) (i : ℕ) (x : X) → slice_get xs i ≡ Some x
    → take (i + 1) (map (λ (p : ℕ × X). f p.0 p.1) (enumerate_from 0 xs)) ≡ take i (map (λ (p : ℕ × X). f p.0 p.1) (enumerate_from 0 xs)) ++ f i x ∷ []
place-next {X} {Y} f xs i x at =
    let all = map (λ (p : ℕ × X). f p.0 p.1) (enumerate_from 0 xs) in
    let place : i ≡ 0 + i = omega arith in
    let there : slice_get all i ≡ Some (f i x) = each-from f 0 i i xs place ∙ ap (option_map (f i)) at in
    let within = slice_get_within all i (f i x) there in
    let read = slice_get-get_or all i (f i x) within in
    let item : get_or all i (f i x) ≡ f i x = same_Some (get_or all i (f i x)) (f i x) (sym read ∙ there) in
    take_more all i (f i x) within ∙ ap (λ (y : Y). take i all ++ y ∷ []) item

pub each-next : {Y : Type 0} (f : ℕ → RowTree → Y) (L : List RowTree) (i : ℕ) (e : RowTree) → slice_get L i ≡ Some e
    → take (i + 1) (each f L) ≡ take i (each f L) ++ f i e ∷ []
each-next f L i e at = place-next f L i e at

-- and all of them
pub length-from : {X Y : Type 0} (f : ℕ → X → Y) (n : ℕ) (xs : List X) → length (map (λ (p : ℕ × X). f p.0 p.1) (enumerate_from n xs)) ≡ length xs
length-from f n [] = refl
length-from f n (x ∷ xs) = ap suc (length-from f (n + 1) xs)

pub all-places : {X Y : Type 0} (f : ℕ → X → Y) (xs : List X) (i : ℕ) → length xs ≤ i
    → take i (map (λ (p : ℕ × X). f p.0 p.1) (enumerate_from 0 xs)) ≡ map (λ (p : ℕ × X). f p.0 p.1) (enumerate_from 0 xs)
all-places f xs i past =
    let count = length-from f 0 xs in
    take_all i (map (λ p. f p.0 p.1) (enumerate_from 0 xs)) (omega (arith, past, count))

pub few-places-so-far : {X Y : Type 0} (f : ℕ → X → Y) (xs : List X) (i : ℕ) → i ≤ length xs → length (take i (map (λ (p : ℕ × X). f p.0 p.1) (enumerate_from 0 xs))) ≡ i
few-places-so-far f xs i within =
    let count = length-from f 0 xs in
    let all = length-take-le i (map (λ p. f p.0 p.1) (enumerate_from 0 xs)) in
    omega (arith, within, count, all)

-- what stands within a list
pub get-within : {X : Type 0} (xs : List X) (i : ℕ) → i < length xs → (x : X) × (slice_get xs i ≡ Some x)
get-within [] i within = absurd (omega (arith, within))
get-within (x ∷ xs) zero within = (x, refl)
get-within (x ∷ xs) (suc i) within = get-within xs i (omega (arith, within))

pub some-copied : (o : Option (Bor ℕ)) → is_some (option_copied o) ≡ is_some o
some-copied None = refl
some-copied (Some k) = refl

-- those so far by their places
pub take-within : {X : Type 0} (xs : List X) (z n : ℕ) → n < z → slice_get (take z xs) n ≡ slice_get xs n
take-within xs zero n within = absurd (omega (arith, within))
take-within [] (suc z) n within = refl
take-within (x ∷ xs) (suc z) zero within = refl
take-within (x ∷ xs) (suc z) (suc n) within = let below : n < z = omega (arith, within) in take-within xs z n below

pub take-past : {X : Type 0} (xs : List X) (z n : ℕ) → z ≤ n → slice_get (take z xs) n ≡ None
take-past xs zero n past = refl
take-past [] (suc z) n past = refl
take-past (x ∷ xs) (suc z) zero past = absurd (omega (arith, past))
take-past (x ∷ xs) (suc z) (suc n) past = let beyond : z ≤ n = omega (arith, past) in take-past xs z n beyond

-- ---- the first place of what passes a test

pub position-cons : {X : Type 0} (test : X → Bool) (x : X) (xs : List X)
    → position test (x ∷ xs) ≡ (if test x then Some 0 else option_map (λ (k : ℕ). k + 1) (position test xs))
position-cons test x xs = by (test x)
  where
    past : (n : ℕ) (c : Bool) → nat_lt n (length xs) ≡ c → cond (nat_lt (1 + n) (length (x ∷ xs))) (Some (1 + n)) None ≡ option_map (λ (k : ℕ). k + 1) (cond c (Some n) None)
    past n true e =
        let within : nat_lt (1 + n) (length (x ∷ xs)) ≡ true = grind (arith, nat_tests, e) in
        let more : 1 + n ≡ n + 1 = omega arith in
        ap (λ (c : Bool). cond c (Some (1 + n)) None) within ∙ ap (λ (k : ℕ). Some k) more
    past n false e =
        let beyond : nat_lt (1 + n) (length (x ∷ xs)) ≡ false = grind (arith, nat_tests, e) in
        ap (λ (c : Bool). cond c (Some (1 + n)) None) beyond

    by : (b : Bool) → cond (nat_lt (cond (not b) (1 + position_or_len test xs) 0) (length (x ∷ xs))) (Some (cond (not b) (1 + position_or_len test xs) 0)) None
        ≡ (if b then Some 0 else option_map (λ (k : ℕ). k + 1) (position test xs))
    by true =
        let within : nat_lt 0 (length (x ∷ xs)) ≡ true = grind (arith, nat_tests) in
        ap (λ (c : Bool). cond c (Some 0) None) within
    by false = past (position_or_len test xs) (nat_lt (position_or_len test xs) (length xs)) refl

-- one passes where one is found
pub any-position : {X : Type 0} (test : X → Bool) (xs : List X) → list_any test xs ≡ is_some (position test xs)
any-position test [] = refl
any-position test (x ∷ xs) =
    ap (λ (b : Bool). test x || b) (any-position test xs) ∙ by (test x) (position test xs) ∙ sym (ap is_some (position-cons test x xs))
  where
    by : (b : Bool) (o : Option ℕ) → (b || is_some o) ≡ is_some (if b then Some 0 else option_map (λ (k : ℕ). k + 1) o)
    by true o = refl
    by false None = refl
    by false (Some k) = refl

pub position-more : {X : Type 0} (test : X → Bool) (xs : List X) (x : X)
    → position test (xs ++ x ∷ []) ≡ option_or (position test xs) (if test x then Some (length xs) else None)
position-more test [] x = position-cons test x [] ∙ by (test x)
  where
    by : (b : Bool) → (if b then Some 0 else option_map (λ (k : ℕ). k + 1) None) ≡ (if b then Some 0 else None)
    by true = refl
    by false = refl
position-more {X} test (y ∷ ys) x =
    position-cons test y (ys ++ x ∷ [])
    ∙ ap (λ (o : Option ℕ). if test y then Some 0 else option_map (λ (k : ℕ). k + 1) o) (position-more test ys x)
    ∙ by (test y) (position test ys) (test x)
    ∙ sym (ap (λ (o : Option ℕ). option_or o (if test x then Some (length (y ∷ ys)) else None)) (position-cons test y ys))
  where
    by : (b : Bool) (o : Option ℕ) (d : Bool)
        → (if b then Some 0 else option_map (λ (k : ℕ). k + 1) (option_or o (if d then Some (length ys) else None)))
        ≡ option_or (if b then Some 0 else option_map (λ (k : ℕ). k + 1) o) (if d then Some (length (y ∷ ys)) else None)
    by true o d = refl
    by false (Some k) d = refl
    by false None true = let more : length ys + 1 ≡ length (y ∷ ys) = omega arith in ap (λ (k : ℕ). Some k) more
    by false None false = refl

or-none : (o : Option ℕ) → option_or o None ≡ o
or-none None = refl
or-none (Some k) = refl

-- ---- tables of the first item that passes for each key

module _ {K X : Type 0} (eq : K → K → Bool) (same : (k q : K) → eq k q ≡ true → k ≡ q) (passes : K → X → Bool) where
  abbrev pub AreFirstOf : List X → List (K × ℕ) → Type 0
  AreFirstOf xs table = (k : K) → lookup (eq k) table ≡ position (passes k) xs

  -- an item that passes for no key
  pub more-none : (xs : List X) (x : X) (table : List (K × ℕ)) → ((k : K) → passes k x ≡ false) → AreFirstOf xs table → AreFirstOf (xs ++ x ∷ []) table
  more-none xs x table fails are k =
      let first = position (passes k) xs in
      are k ∙ sym (position-more (passes k) xs x ∙ ap (λ (b : Bool). option_or first (if b then Some (length xs) else None)) (fails k) ∙ or-none first)

  -- one that passes for one key alone, which has a place
  pub more-kept : (xs : List X) (x : X) (table : List (K × ℕ)) (key : K) (place : ℕ) → ((k : K) → passes k x ≡ eq k key)
      → lookup (eq key) table ≡ Some place → AreFirstOf xs table → AreFirstOf (xs ++ x ∷ []) table
  more-kept xs x table key place one has are k =
      are k ∙ by (eq k key) refl
      ∙ sym (position-more (passes k) xs x ∙ ap (λ (b : Bool). option_or (position (passes k) xs) (if b then Some (length xs) else None)) (one k))
    where
      by : (b : Bool) → eq k key ≡ b → position (passes k) xs ≡ option_or (position (passes k) xs) (if b then Some (length xs) else None)
      by true e =
          let found : position (passes k) xs ≡ Some place = sym (are k) ∙ ap (λ (q : K). lookup (eq q) table) (same k key e) ∙ has in
          found ∙ sym (ap (λ (o : Option ℕ). option_or o (Some (length xs))) found)
      by false e = sym (or-none (position (passes k) xs))

  -- and one that has none, and is put in
  pub more-put : (xs : List X) (x : X) (old new : List (K × ℕ)) (key : K) (place : ℕ) → place ≡ length xs → ((k : K) → passes k x ≡ eq k key)
      → lookup (eq key) old ≡ None → ((k : K) → lookup (eq k) new ≡ (if eq k key then Some place else lookup (eq k) old))
      → AreFirstOf xs old → AreFirstOf (xs ++ x ∷ []) new
  more-put xs x old new key place at one has put are k =
      put k ∙ by (eq k key) refl
      ∙ sym (position-more (passes k) xs x ∙ ap (λ (b : Bool). option_or (position (passes k) xs) (if b then Some (length xs) else None)) (one k))
    where
      by : (b : Bool) → eq k key ≡ b → (if b then Some place else lookup (eq k) old) ≡ option_or (position (passes k) xs) (if b then Some (length xs) else None)
      by true e =
          let none : position (passes k) xs ≡ None = sym (are k) ∙ ap (λ (q : K). lookup (eq q) old) (same k key e) ∙ has in
          ap (λ (n : ℕ). Some n) at ∙ sym (ap (λ (o : Option ℕ). option_or o (Some (length xs))) none)
      by false e = are k ∙ sym (or-none (position (passes k) xs))

  -- the same by whether it has one
  pub more-held : (xs : List X) (x : X) (table : List (K × ℕ)) (key : K) → ((k : K) → passes k x ≡ eq k key)
      → is_some (lookup (eq key) table) ≡ true → AreFirstOf xs table → AreFirstOf (xs ++ x ∷ []) table
  more-held xs x table key one has are = by (lookup (eq key) table) refl has
    where
      by : (found : Option ℕ) → lookup (eq key) table ≡ found → is_some found ≡ true → AreFirstOf (xs ++ x ∷ []) table
      by None e h = cc
      by (Some place) e h = more-kept xs x table key place one e are

  pub more-added : (xs : List X) (x : X) (old new : List (K × ℕ)) (key : K) (place : ℕ) → place ≡ length xs → ((k : K) → passes k x ≡ eq k key)
      → is_some (lookup (eq key) old) ≡ false → ((k : K) → lookup (eq k) new ≡ (if eq k key then Some place else lookup (eq k) old))
      → AreFirstOf xs old → AreFirstOf (xs ++ x ∷ []) new
  more-added xs x old new key place at one has put are = by (lookup (eq key) old) refl has
    where
      by : (found : Option ℕ) → lookup (eq key) old ≡ found → is_some found ≡ false → AreFirstOf (xs ++ x ∷ []) new
      by None e h = more-put xs x old new key place at one e put are
      by (Some there) e h = cc

-- ---- places by ids

slice_get-push : (xs : List ℕ) (x n : ℕ) → slice_get (xs ++ x ∷ []) n ≡ (if nat_eq n (length xs) then Some x else slice_get xs n)
slice_get-push [] x zero = grind (arith, nat_tests)
slice_get-push [] x (suc n) = grind (arith, nat_tests)
slice_get-push (y ∷ ys) x zero = grind (arith, nat_tests)
slice_get-push (y ∷ ys) x (suc n) = grind (arith, nat_tests, slice_get-push ys x n)

where-from : (test : RowTree → Bool) (n : ℕ) (L : List RowTree) (e : RowTree)
    → map (λ (p : ℕ × RowTree). p.0) (filter (λ (p : ℕ × RowTree). test p.1) (enumerate_from n (L ++ e ∷ [])))
    ≡ map (λ (p : ℕ × RowTree). p.0) (filter (λ (p : ℕ × RowTree). test p.1) (enumerate_from n L)) ++ (if test e then (n + length L) ∷ [] else [])
where-from test n [] e = by (test e)
  where
    by : (b : Bool) → map (λ (p : ℕ × RowTree). p.0) (cond b ((n, e) ∷ []) []) ≡ [] ++ (if b then (n + 0) ∷ [] else [])
    by true = let place : n ≡ n + 0 = omega arith in ap (λ (k : ℕ). k ∷ []) place
    by false = refl
where-from test n (x ∷ xs) e =
    let place : n + 1 + length xs ≡ n + suc (length xs) = omega arith in
    by (test x)
    (where-from test (n + 1) xs e
    ∙ ap (λ (k : ℕ). map (λ (p : ℕ × RowTree). p.0) (filter (λ (p : ℕ × RowTree). test p.1) (enumerate_from (n + 1) xs)) ++ (if test e then k ∷ [] else [])) place)
  where
    by : (b : Bool)
        → map (λ (p : ℕ × RowTree). p.0) (filter (λ (p : ℕ × RowTree). test p.1) (enumerate_from (n + 1) (xs ++ e ∷ [])))
        ≡ map (λ (p : ℕ × RowTree). p.0) (filter (λ (p : ℕ × RowTree). test p.1) (enumerate_from (n + 1) xs)) ++ (if test e then (n + suc (length xs)) ∷ [] else [])
        → map (λ (p : ℕ × RowTree). p.0) (cond b ((n, x) ∷ filter (λ (p : ℕ × RowTree). test p.1) (enumerate_from (n + 1) (xs ++ e ∷ []))) (filter (λ (p : ℕ × RowTree). test p.1) (enumerate_from (n + 1) (xs ++ e ∷ []))))
        ≡ map (λ (p : ℕ × RowTree). p.0) (cond b ((n, x) ∷ filter (λ (p : ℕ × RowTree). test p.1) (enumerate_from (n + 1) xs)) (filter (λ (p : ℕ × RowTree). test p.1) (enumerate_from (n + 1) xs)))
        ++ (if test e then (n + suc (length xs)) ∷ [] else [])
    by true rest = ap (λ (ks : List ℕ). n ∷ ks) rest
    by false rest = rest

pub places-more : (test : RowTree → Bool) (L : List RowTree) (e : RowTree)
    → places_where test (L ++ e ∷ []) ≡ places_where test L ++ (if test e then length L ∷ [] else [])
places-more test L e =
    let place : 0 + length L ≡ length L = omega arith in
    where-from test 0 L e ∙ ap (λ (k : ℕ). places_where test L ++ (if test e then k ∷ [] else [])) place

-- there are as many places as entries
count-from : (test : RowTree → Bool) (n : ℕ) (L : List RowTree)
    → length (map (λ (p : ℕ × RowTree). p.0) (filter (λ (p : ℕ × RowTree). test p.1) (enumerate_from n L))) ≡ length (filter test L)
count-from test n [] = refl
count-from test n (x ∷ xs) = by (test x) (count-from test (n + 1) xs)
  where
    by : (b : Bool) → length (map (λ (p : ℕ × RowTree). p.0) (filter (λ (p : ℕ × RowTree). test p.1) (enumerate_from (n + 1) xs))) ≡ length (filter test xs)
        → length (map (λ (p : ℕ × RowTree). p.0) (cond b ((n, x) ∷ filter (λ (p : ℕ × RowTree). test p.1) (enumerate_from (n + 1) xs)) (filter (λ (p : ℕ × RowTree). test p.1) (enumerate_from (n + 1) xs))))
        ≡ length (cond b (x ∷ filter test xs) (filter test xs))
    by true h = omega (arith, h)
    by false h = h

pub length-places : (test : RowTree → Bool) (L : List RowTree) → length (places_where test L) ≡ length (filter test L)
length-places test L = count-from test 0 L

-- and no more than there are
few-places : (test : RowTree → Bool) (L : List RowTree) → length (filter test L) ≤ length L
few-places test [] = omega arith
few-places test (x ∷ xs) = by (test x) (few-places test xs)
  where
    by : (b : Bool) → length (filter test xs) ≤ length xs → length (cond b (x ∷ filter test xs) (filter test xs)) ≤ length (x ∷ xs)
    by true h = omega (arith, h)
    by false h = omega (arith, h)

pub count-within : (L : List RowTree) (counts : List (List ℕ × ℕ)) (id : List ℕ) → AreCounts L counts → unwrap_or (lookup (bytes_eq id) counts) 0 ≤ length L
count-within L counts id are =
    let same = are id in
    let number = length-places (has_id id) L in
    let few = few-places (has_id id) L in
    omega (arith, same, number, few)

-- a called one has no id
uncounted : (id : List ℕ) (e : RowTree) → is_called e ≡ true → has_id id e ≡ false
uncounted id e called = ap (λ (b : Bool). not b && bytes_eq id e.id) called

counted : (id : List ℕ) (e : RowTree) → is_called e ≡ false → has_id id e ≡ bytes_eq id e.id
counted id e own = ap (λ (b : Bool). not b && bytes_eq id e.id) own

pub counts-called : (L : List RowTree) (e : RowTree) (counts : List (List ℕ × ℕ)) → is_called e ≡ true → AreCounts L counts → AreCounts (L ++ e ∷ []) counts
counts-called L e counts called are id =
    let places = places_where (has_id id) L in
    are id
    ∙ sym (ap (λ (ks : List ℕ). length ks) (places-more (has_id id) L e ∙ ap (λ (b : Bool). places ++ (if b then length L ∷ [] else [])) (uncounted id e called) ∙ append-nil places))

pub ids-called : (L : List RowTree) (e : RowTree) (ids : List (NumberedText × ℕ)) → is_called e ≡ true → AreIds L ids → AreIds (L ++ e ∷ []) ids
ids-called L e ids called are id n =
    let places = places_where (has_id id) L in
    are id n
    ∙ sym (ap (λ (ks : List ℕ). slice_get ks n) (places-more (has_id id) L e ∙ ap (λ (b : Bool). places ++ (if b then length L ∷ [] else [])) (uncounted id e called) ∙ append-nil places))

-- one more of an id
length-push : (xs : List ℕ) (x : ℕ) → length (xs ++ x ∷ []) ≡ length xs + 1
length-push [] x = refl
length-push (y ∷ ys) x = let rest = length-push ys x in omega (arith, rest)

pub counts-more : (L : List RowTree) (e : RowTree) (old new : List (List ℕ × ℕ)) → is_called e ≡ false → AreCounts L old
    → ((id : List ℕ) → lookup (bytes_eq id) new ≡ (if bytes_eq id e.id then Some (unwrap_or (lookup (bytes_eq e.id) old) 0 + 1) else lookup (bytes_eq id) old))
    → AreCounts (L ++ e ∷ []) new
counts-more L e old new own are more id =
    ap (λ (o : Option ℕ). unwrap_or o 0) (more id)
    ∙ by (bytes_eq id e.id) (bytes_decides id e.id).0
    ∙ sym (ap (λ (ks : List ℕ). length ks) (places-more (has_id id) L e ∙ ap (λ (b : Bool). places_where (has_id id) L ++ (if b then length L ∷ [] else [])) (counted id e own)))
  where
    by : (b : Bool) → (b ≡ true → id ≡ e.id)
        → unwrap_or (if b then Some (unwrap_or (lookup (bytes_eq e.id) old) 0 + 1) else lookup (bytes_eq id) old) 0 ≡ length (places_where (has_id id) L ++ (if b then length L ∷ [] else []))
    by true same =
        let count : unwrap_or (lookup (bytes_eq e.id) old) 0 ≡ length (places_where (has_id id) L) = ap (λ (i : List ℕ). unwrap_or (lookup (bytes_eq i) old) 0) (sym (same refl)) ∙ are id in
        ap (λ (k : ℕ). k + 1) count ∙ sym (length-push (places_where (has_id id) L) (length L))
    by false same = are id ∙ sym (ap (λ (ks : List ℕ). length ks) (append-nil (places_where (has_id id) L)))

pub ids-more : (L : List RowTree) (e : RowTree) (old new : List (NumberedText × ℕ)) (key : NumberedText) (place : ℕ) → place ≡ length L → is_called e ≡ false
    → key.text ≡ e.id → key.number ≡ length (places_where (has_id e.id) L) → AreIds L old
    → ((k : NumberedText) → lookup (numbered_eq k) new ≡ (if numbered_eq k key then Some place else lookup (numbered_eq k) old))
    → AreIds (L ++ e ∷ []) new
ids-more L e old new key place at own text number are put id n =
    let k : NumberedText = record { text = id; number = n } in
    put k
    ∙ by (bytes_eq id key.text) (bytes_eq id e.id) (ap (bytes_eq id) text) (bytes_decides id e.id).0
    ∙ sym (ap (λ (ks : List ℕ). slice_get ks n) (places-more (has_id id) L e ∙ ap (λ (b : Bool). places_where (has_id id) L ++ (if b then length L ∷ [] else [])) (counted id e own)))
  where
    by : (b d : Bool) → b ≡ d → (d ≡ true → id ≡ e.id)
        → (if b && nat_eq n key.number then Some place else lookup (numbered_eq (record { text = id; number = n })) old)
        ≡ slice_get (places_where (has_id id) L ++ (if d then length L ∷ [] else [])) n
    by true true h same =
        let places = places_where (has_id id) L in
        let count : key.number ≡ length places = number ∙ ap (λ (i : List ℕ). length (places_where (has_id i) L)) (sym (same refl)) in
        ap₂ (λ (m p : ℕ). if nat_eq n m then Some p else lookup (numbered_eq (record { text = id; number = n })) old) count at
        ∙ ap (λ (o : Option ℕ). if nat_eq n (length places) then Some (length L) else o) (are id n)
        ∙ sym (slice_get-push places (length L) n)
    by false false h same = are id n ∙ sym (ap (λ (ks : List ℕ). slice_get ks n) (append-nil (places_where (has_id id) L)))
    by true false h same = cc
    by false true h same = cc

-- ---- one entry more, by what its key is

module _ (e : RowTree) (old counts : List (List ℕ × ℕ)) (found : Option NumberedText) (called : is_called e ≡ true → (found ≡ None) × (counts ≡ old))
    (own : is_called e ≡ false → found ≡ Some (record { text = e.id; number = unwrap_or (lookup (bytes_eq e.id) old) 0 }))
    (more : is_called e ≡ false → (id : List ℕ)
    → lookup (bytes_eq id) counts ≡ (if bytes_eq id e.id then Some (unwrap_or (lookup (bytes_eq e.id) old) 0 + 1) else lookup (bytes_eq id) old)) where
  pub counts-next : (L : List RowTree) → AreCounts L old → AreCounts (L ++ e ∷ []) counts
  counts-next L are = by (is_called e) refl
    where
      by : (b : Bool) → is_called e ≡ b → AreCounts (L ++ e ∷ []) counts
      by true is = subst (AreCounts (L ++ e ∷ [])) (sym (called is).1) (counts-called L e old is are)
      by false is = counts-more L e old counts is are (more is)

  -- where it has no key, and where it has one
  pub ids-passed : (L : List RowTree) (ids : List (NumberedText × ℕ)) → found ≡ None → AreIds L ids → AreIds (L ++ e ∷ []) ids
  ids-passed L ids none are = by (is_called e) refl
    where
      by : (b : Bool) → is_called e ≡ b → AreIds (L ++ e ∷ []) ids
      by true is = ids-called L e ids is are
      by false is = let never = sym none ∙ own is in cc

  key-own : (key : NumberedText) → found ≡ Some key → (is_called e ≡ false) × (key.text ≡ e.id) × (key.number ≡ unwrap_or (lookup (bytes_eq e.id) old) 0)
  key-own key some = by (is_called e) refl
    where
      by : (b : Bool) → is_called e ≡ b → (is_called e ≡ false) × (key.text ≡ e.id) × (key.number ≡ unwrap_or (lookup (bytes_eq e.id) old) 0)
      by true is = let never = sym some ∙ (called is).0 in cc
      by false is =
          let same = same_Some key (record { text = e.id; number = unwrap_or (lookup (bytes_eq e.id) old) 0 }) (sym some ∙ own is) in
          (is, ap (λ (k : NumberedText). k.text) same, ap (λ (k : NumberedText). k.number) same)

  pub ids-put : (L : List RowTree) (ids new : List (NumberedText × ℕ)) (key : NumberedText) (place : ℕ) → found ≡ Some key → place ≡ length L
      → ((k : NumberedText) → lookup (numbered_eq k) new ≡ (if numbered_eq k key then Some place else lookup (numbered_eq k) ids))
      → AreCounts L old → AreIds L ids → AreIds (L ++ e ∷ []) new
  ids-put L ids new key place some at put counted_so_far are =
      let k = key-own key some in
      ids-more L e ids new key place at k.0 k.1 (k.2 ∙ counted_so_far e.id) are put

  -- which entry of another listing it goes on as
  pub next-passed : (L before : List RowTree) → found ≡ None → None ≡ next_by_id L before e
  next-passed L before none = by (is_called e) refl
    where
      by : (b : Bool) → is_called e ≡ b → None ≡ next_by_id L before e
      by true is = sym (ap (λ (c : Bool). if c then None else slice_get (places_where (has_id e.id) L) (length (filter (has_id e.id) before))) is)
      by false is = let never = sym none ∙ own is in cc

  pub next-found : (L before : List RowTree) (ids : List (NumberedText × ℕ)) (key : NumberedText) → found ≡ Some key → AreCounts before old → AreIds L ids
      → lookup (numbered_eq key) ids ≡ next_by_id L before e
  next-found L before ids key some counted_so_far are =
      let k = key-own key some in
      let number : key.number ≡ length (filter (has_id e.id) before) = k.2 ∙ counted_so_far e.id ∙ length-places (has_id e.id) before in
      are key.text key.number
      ∙ ap₂ (λ (id : List ℕ) (n : ℕ). slice_get (places_where (has_id id) L) n) k.1 number
      ∙ sym (ap (λ (c : Bool). if c then None else slice_get (places_where (has_id e.id) L) (length (filter (has_id e.id) before))) k.0)

pub entry-next : (L : List RowTree) (i : ℕ) (e : RowTree) → slice_get L i ≡ Some e → take (i + 1) L ≡ take i L ++ e ∷ []
entry-next L i e at =
    let within = slice_get_within L i e at in
    let item : get_or L i e ≡ e = same_Some (get_or L i e) e (sym (slice_get-get_or L i e within) ∙ at) in
    take_more L i e within ∙ ap (λ (x : RowTree). take i L ++ x ∷ []) item
