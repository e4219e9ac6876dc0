-- What the tables of listings have at a place.
use Rattle.std.proofs.Common.{◌≡◌, ◌∙◌, ◌+◌, ◌<◌, ◌≤◌, ◌++◌, ◌∷◌, ◌&&◌, [], ℕ, zero, suc, All, Bool, List, None, Option, Some, ap, ap₂, append-nil, arith, cond, false, filter, find, flat_map, if◌then◌else◌, length, map, nat_eq, nat_lt, refl, replicate, set, sym, take, true, unwrap_or}
use Rattle.std.specs.List.{enumerate_from, slice_get}
use Rattle.std.specs.Option.{option_and_then, option_eq, option_map, option_map_or, option_or}
use Rattle.std.proofs.lemmas.Bool.Decides.{nat_tests}
use Rattle.std.proofs.lemmas.List.{map-append, set_past, take_all}
use Rattle.std.proofs.lemmas.List.Elements.{filter-append}
use Rattle.std.proofs.lemmas.Option.{none-some, same_Some, slice_get_past, slice_get_within}
use Rattle.idl_base.specs.Exact.{same_number, same_option}
use Rattle.std.specs.Str.{bytes_eq}
use Rattle.idl_changes.specs.Listing.{by_id, interface_of, is_called, name_at, places_where, scope_of}
use Rattle.idl_changes.specs.Offered.{ancestors, called_in, is_reached, offered, offers}
use Rattle.idl_changes.specs.Partners.{by_path, called_partner, joined, partner}
use Rattle.idl_changes.specs.Tables.{each}
use Rattle.idl_changes.proofs.AncestorLemmas.{last_first-none, last_first-same, none-reached, none-there}
use Rattle.idl_changes.proofs.EntryLemmas.{interface-found}
use Rattle.idl_changes.proofs.HasLemmas.{Has, all-has, at-has, passing-place}
use Rattle.idl_changes.proofs.TableLemmas.{place-next, slice_get-each}
use Rattle.idl_repo.specs.declared.details.row_tree.RowTree.{RowTree}

-- ---- what a function of the place gives, where it gives nothing past the last

pub place-each : (f : ℕ → Option ℕ) (L : List RowTree) (i : ℕ) → (slice_get L i ≡ None → f i ≡ None)
    → option_and_then (λ (o : Option ℕ). o) (slice_get (each (λ k e. f k) L) i) ≡ f i
place-each f L i past = ap (option_and_then (λ (o : Option ℕ). o)) (slice_get-each (λ k e. f k) L i) ∙ by (slice_get L i) past
  where
    by : (entry : Option RowTree) → (entry ≡ None → f i ≡ None) → option_and_then (λ (o : Option ℕ). o) (option_map (λ (e : RowTree). f i) entry) ≡ f i
    by None h = sym (h refl)
    by (Some e) h = refl

pub list-each : (f : ℕ → List ℕ) (L : List RowTree) (i : ℕ) → (slice_get L i ≡ None → f i ≡ []) → unwrap_or (slice_get (each (λ k e. f k) L) i) [] ≡ f i
list-each f L i past = ap (λ (o : Option (List ℕ)). unwrap_or o []) (slice_get-each (λ k e. f k) L i) ∙ by (slice_get L i) past
  where
    by : (entry : Option RowTree) → (entry ≡ None → f i ≡ []) → unwrap_or (option_map (λ (e : RowTree). f i) entry) [] ≡ f i
    by None h = sym (h refl)
    by (Some e) h = refl

-- ---- what belongs together

module _ (old new : List RowTree) (i : ℕ) where
  joined-past : slice_get old i ≡ None → joined old new i ≡ None
  unfolding joined
  joined-past past = ap (option_and_then (λ (e : RowTree). if is_called e then None else option_or (by_id old new i e) (by_path old new i e))) past

  partner-past : slice_get old i ≡ None → partner old new i ≡ None
  unfolding partner
  partner-past past = ap (option_and_then (λ (e : RowTree). if is_called e then called_partner old new i e else joined old new i)) past

  pub joined-there : (places : List (Option ℕ)) → places ≡ each (λ k e. joined old new k) old → option_and_then (λ (o : Option ℕ). o) (slice_get places i) ≡ joined old new i
  joined-there places are = ap (λ (ps : List (Option ℕ)). option_and_then (λ (o : Option ℕ). o) (slice_get ps i)) are ∙ place-each (joined old new) old i joined-past

  pub partner-there : (places : List (Option ℕ)) → places ≡ each (λ k e. partner old new k) old → option_and_then (λ (o : Option ℕ). o) (slice_get places i) ≡ partner old new i
  partner-there places are = ap (λ (ps : List (Option ℕ)). option_and_then (λ (o : Option ℕ). o) (slice_get ps i)) are ∙ place-each (partner old new) old i partner-past

-- what is called, and what isn't
module _ (old new : List RowTree) (i : ℕ) where
  pub partner-called : (e : RowTree) → option_and_then (λ (f : RowTree). if is_called f then Some f else None) (slice_get old i) ≡ Some e → partner old new i ≡ called_partner old new i e
  unfolding partner
  partner-called e is = by (slice_get old i) is
    where
      test : (f : RowTree) (b : Bool) → (if b then Some f else None) ≡ Some e → (if b then called_partner old new i f else joined old new i) ≡ called_partner old new i e
      test f true h = ap (called_partner old new i) (same_Some f e h)
      test f false h = cc

      by : (entry : Option RowTree) → option_and_then (λ (f : RowTree). if is_called f then Some f else None) entry ≡ Some e
          → option_and_then (λ (f : RowTree). if is_called f then called_partner old new i f else joined old new i) entry ≡ called_partner old new i e
      by None h = cc
      by (Some f) h = test f (is_called f) h

  pub partner-other : option_and_then (λ (f : RowTree). if is_called f then Some f else None) (slice_get old i) ≡ None → partner old new i ≡ joined old new i
  unfolding partner
  partner-other none = by (slice_get old i) refl none
    where
      test : (f : RowTree) (b : Bool) → (if b then Some f else None) ≡ None → (if b then called_partner old new i f else joined old new i) ≡ joined old new i
      test f true h = cc
      test f false h = refl

      by : (entry : Option RowTree) → slice_get old i ≡ entry → option_and_then (λ (f : RowTree). if is_called f then Some f else None) entry ≡ None
          → option_and_then (λ (f : RowTree). if is_called f then called_partner old new i f else joined old new i) entry ≡ joined old new i
      by None at h = sym (joined-past old new i at)
      by (Some f) at h = test f (is_called f) h

-- what is asked of a place that passes a test
pub asked-kept : (test : ℕ → Bool) (f : ℕ → Option ℕ) (place : Option ℕ)
    → option_and_then (λ (o : ℕ). if test o then f o else None) place ≡ option_and_then f (option_and_then (λ (o : ℕ). if test o then Some o else None) place)
asked-kept test f None = refl
asked-kept test f (Some o) = by (test o)
  where
    by : (b : Bool) → (if b then f o else None) ≡ option_and_then f (if b then Some o else None)
    by true = refl
    by false = refl

-- what is told of a place that passes two tests
pub told-kept : {Y : Type 0} (test also : ℕ → Bool) (told : List Y) (place : Option ℕ)
    → option_map_or (λ (o : ℕ). if test o && also o then told else []) place []
    ≡ option_map_or (λ (o : ℕ). if also o then told else []) (option_and_then (λ (o : ℕ). if test o then Some o else None) place) []
told-kept test also told None = refl
told-kept {Y} test also told (Some o) = by (test o)
  where
    by : (b : Bool) → (if b && also o then told else []) ≡ option_map_or (λ (k : ℕ). if also k then told else []) (if b then Some o else None) []
    by true = refl
    by false = refl

-- ---- what is inherited, and what is called

none-where : (test : RowTree → Bool) (n : ℕ) (L : List RowTree) → ((e : RowTree) → test e ≡ false)
    → map (λ (p : ℕ × RowTree). p.0) (filter (λ (p : ℕ × RowTree). test p.1) (enumerate_from n L)) ≡ []
none-where test n [] none = refl
none-where test n (x ∷ xs) none =
    ap (λ (b : Bool). map (λ (p : ℕ × RowTree). p.0) (cond b ((n, x) ∷ filter (λ (p : ℕ × RowTree). test p.1) (enumerate_from (n + 1) xs)) (filter (λ (p : ℕ × RowTree). test p.1) (enumerate_from (n + 1) xs)))) (none x)
    ∙ none-where test (n + 1) xs none

module _ (L : List RowTree) (i : ℕ) where
  ancestors-past : slice_get L i ≡ None → ancestors L i ≡ []
  unfolding ancestors
  ancestors-past past =
      last_first-same (is_reached L (length L) i) (λ n. false) (length L) (λ n within. none-reached L (length L) i n (none-there L i past))
      ∙ last_first-none (length L)

  called_in-past : slice_get L i ≡ None → called_in L i ≡ []
  unfolding called_in
  called_in-past past = none-where (λ (e : RowTree). is_called e && option_eq nat_eq (interface_of L e) (Some i)) 0 L none
    where
      none : (e : RowTree) → (is_called e && option_eq nat_eq (interface_of L e) (Some i)) ≡ false
      none e = by (is_called e) (option_eq nat_eq (interface_of L e) (Some i)) refl
        where
          by : (a b : Bool) → option_eq nat_eq (interface_of L e) (Some i) ≡ b → (a && b) ≡ false
          by false b is = refl
          by true false is = refl
          by true true is =
              let there = interface-found L (scope_of e.path) i (same_option nat_eq same_number (interface_of L e) (Some i) is) in
              absurd (none-some there.0 (sym past ∙ there.1))

  pub ancestors-there : (lists : List (List ℕ)) → lists ≡ each (λ k e. ancestors L k) L → unwrap_or (slice_get lists i) [] ≡ ancestors L i
  ancestors-there lists are = ap (λ (ls : List (List ℕ)). unwrap_or (slice_get ls i) []) are ∙ list-each (ancestors L) L i ancestors-past

  pub called-there : (lists : List (List ℕ)) → lists ≡ each (λ k e. called_in L k) L → unwrap_or (slice_get lists i) [] ≡ called_in L i
  called-there lists are = ap (λ (ls : List (List ℕ)). unwrap_or (slice_get ls i) []) are ∙ list-each (called_in L) L i called_in-past

-- ---- the lists of what is called, with one entry more

each-same : (f g : ℕ → List ℕ) (L : List RowTree) → ((k : ℕ) → f k ≡ g k) → each (λ k x. f k) L ≡ each (λ k x. g k) L
each-same f g L same = λ t. each (λ k x. same k t) L

pub empty-each : (none : List ℕ) (n : ℕ) (L : List RowTree) → replicate (length L) none ≡ map (λ (p : ℕ × RowTree). none) (enumerate_from n L)
empty-each none n [] = refl
empty-each none n (x ∷ xs) = ap (λ (ls : List (List ℕ)). none ∷ ls) (empty-each none (n + 1) xs)

-- one that is put behind those at a place
module _ (lists : ℕ → List ℕ) (place : ℕ) where
  apart : (j n : ℕ) (L : List RowTree) → ((k : ℕ) → n ≤ k → nat_eq j k ≡ false)
      → map (λ (p : ℕ × RowTree). lists p.0 ++ (if nat_eq j p.0 then place ∷ [] else [])) (enumerate_from n L) ≡ map (λ (p : ℕ × RowTree). lists p.0) (enumerate_from n L)
  apart j n [] other = refl
  apart j n (x ∷ xs) other =
      let own : n ≤ n = omega arith in
      let first : lists n ++ (if nat_eq j n then place ∷ [] else []) ≡ lists n =
      ap (λ (b : Bool). lists n ++ (if b then place ∷ [] else [])) (other n own) ∙ append-nil (lists n)
      in
      let later : (k : ℕ) → n + 1 ≤ k → nat_eq j k ≡ false = λ k past. (let below : n ≤ k = omega (arith, past) in other k below) in
      ap₂ (λ (l : List ℕ) (ls : List (List ℕ)). l ∷ ls) first (apart j (n + 1) xs later)

  put-from : (i j n : ℕ) (L : List RowTree) → j ≡ n + i
      → set (map (λ (p : ℕ × RowTree). lists p.0) (enumerate_from n L)) i (lists j ++ place ∷ [])
      ≡ map (λ (p : ℕ × RowTree). lists p.0 ++ (if nat_eq j p.0 then place ∷ [] else [])) (enumerate_from n L)
  put-from i j n [] is = refl
  put-from zero j n (x ∷ xs) is =
      let here : nat_eq j n ≡ true = grind (arith, nat_tests, is) in
      let same : j ≡ n = omega (arith, is) in
      let other : (k : ℕ) → n + 1 ≤ k → nat_eq j k ≡ false = λ k past. grind (arith, nat_tests, is, past) in
      ap₂ (λ (l : List ℕ) (ls : List (List ℕ)). l ∷ ls)
      (ap (λ (k : ℕ). lists k ++ place ∷ []) same ∙ sym (ap (λ (b : Bool). lists n ++ (if b then place ∷ [] else [])) here))
      (sym (apart j (n + 1) xs other))
  put-from (suc i) j n (x ∷ xs) is =
      let other : nat_eq j n ≡ false = grind (arith, nat_tests, is) in
      let next : j ≡ n + 1 + i = omega (arith, is) in
      ap₂ (λ (l : List ℕ) (ls : List (List ℕ)). l ∷ ls)
      (sym (ap (λ (b : Bool). lists n ++ (if b then place ∷ [] else [])) other ∙ append-nil (lists n)))
      (put-from i j (n + 1) xs next)

  pub put-there : (j : ℕ) (L : List RowTree) → set (each (λ k e. lists k) L) j (lists j ++ place ∷ []) ≡ each (λ k e. lists k ++ (if nat_eq j k then place ∷ [] else [])) L
  put-there j L = let is : j ≡ 0 + j = omega arith in put-from j j 0 L is

-- ---- entries one after another

length-enumerate : (n : ℕ) (L : List RowTree) → length (enumerate_from n L) ≡ length L
length-enumerate n [] = refl
length-enumerate n (x ∷ xs) = ap suc (length-enumerate (n + 1) xs)

pub get-past : {X : Type 0} (xs : List X) (i : ℕ) → slice_get xs i ≡ None → length xs ≤ i
get-past [] i is = omega arith
get-past (x ∷ xs) zero is = cc
get-past (x ∷ xs) (suc i) is = let rest = get-past xs i is in omega (arith, rest)

same-pairs : (n : ℕ) (L : List RowTree) → map (λ (p : ℕ × RowTree). (p.0, p.1)) (enumerate_from n L) ≡ enumerate_from n L
same-pairs n [] = refl
same-pairs n (x ∷ xs) = ap (λ (ps : List (ℕ × RowTree)). (n, x) ∷ ps) (same-pairs (n + 1) xs)

entries-next : (L : List RowTree) (i : ℕ) (e : RowTree) → slice_get L i ≡ Some e → take (i + 1) (enumerate_from 0 L) ≡ take i (enumerate_from 0 L) ++ (i, e) ∷ []
entries-next L i e at =
    ap (take (i + 1)) (sym (same-pairs 0 L)) ∙ place-next (λ (k : ℕ) (x : RowTree). (k, x)) L i e at
    ∙ ap (λ (ps : List (ℕ × RowTree)). take i ps ++ (i, e) ∷ []) (same-pairs 0 L)

-- the lists so far of what is called
module _ (L : List RowTree) where
  abbrev pub called_so_far : (z i : ℕ) → List ℕ
  called_so_far z i = map (λ p. p.0) (filter (λ p. is_called p.1 && option_eq nat_eq (interface_of L p.1) (Some i)) (take z (enumerate_from 0 L)))

  abbrev pub own_interface_of : RowTree → Option ℕ
  own_interface_of e = if is_called e then interface_of L e else None

  own-test : (e : RowTree) (i : ℕ) → (is_called e && option_eq nat_eq (interface_of L e) (Some i)) ≡ option_eq nat_eq (own_interface_of e) (Some i)
  own-test e i = by (is_called e)
    where
      by : (b : Bool) → (b && option_eq nat_eq (interface_of L e) (Some i)) ≡ option_eq nat_eq (if b then interface_of L e else None) (Some i)
      by true = refl
      by false = refl

  one-more : (z i : ℕ) (e : RowTree) → slice_get L z ≡ Some e
      → called_so_far (z + 1) i ≡ called_so_far z i ++ (if option_eq nat_eq (own_interface_of e) (Some i) then z ∷ [] else [])
  one-more z i e at =
      let test = λ (p : ℕ × RowTree). is_called p.1 && option_eq nat_eq (interface_of L p.1) (Some i) in
      let so_far = take z (enumerate_from 0 L) in
      ap (λ (ps : List (ℕ × RowTree)). map (λ (p : ℕ × RowTree). p.0) (filter test ps)) (entries-next L z e at)
      ∙ ap (map (λ (p : ℕ × RowTree). p.0)) (filter-append test so_far ((z, e) ∷ []))
      ∙ map-append (λ (p : ℕ × RowTree). p.0) (filter test so_far) (filter test ((z, e) ∷ []))
      ∙ ap (λ (ks : List ℕ). called_so_far z i ++ ks) (by (is_called e && option_eq nat_eq (interface_of L e) (Some i)))
      ∙ ap (λ (b : Bool). called_so_far z i ++ (if b then z ∷ [] else [])) (own-test e i)
    where
      by : (b : Bool) → map (λ (p : ℕ × RowTree). p.0) (cond b ((z, e) ∷ []) []) ≡ (if b then z ∷ [] else [])
      by true = refl
      by false = refl

  abbrev pub put_behind : List (List ℕ) → ℕ → Option ℕ → List (List ℕ)
  put_behind all place interface = option_map_or (λ i. set all i (unwrap_or (slice_get all i) [] ++ place ∷ [])) interface all

  put-by : (z : ℕ) (own : Option ℕ)
      → put_behind (each (λ k x. called_so_far z k) L) z own ≡ each (λ k x. called_so_far z k ++ (if option_eq nat_eq own (Some k) then z ∷ [] else [])) L
  put-by z None = each-same (λ k. called_so_far z k) (λ k. called_so_far z k ++ []) L (λ k. sym (append-nil (called_so_far z k)))
  put-by z (Some j) = by (slice_get L j) refl
    where
      by : (entry : Option RowTree) → slice_get L j ≡ entry
          → set (each (λ k x. called_so_far z k) L) j (unwrap_or (slice_get (each (λ k x. called_so_far z k) L) j) [] ++ z ∷ [])
          ≡ each (λ k x. called_so_far z k ++ (if nat_eq j k then z ∷ [] else [])) L
      by (Some f) at =
          let there = ap (λ (o : Option (List ℕ)). unwrap_or o []) (slice_get-each (λ (k : ℕ) (x : RowTree). called_so_far z k) L j ∙ ap (option_map (λ (x : RowTree). called_so_far z j)) at) in
          ap (λ (l : List ℕ). set (each (λ k x. called_so_far z k) L) j (l ++ z ∷ [])) there ∙ put-there (called_so_far z) z j L
      by None at =
          let past = get-past (each (λ k x. called_so_far z k) L) j (slice_get-each (λ (k : ℕ) (x : RowTree). called_so_far z k) L j ∙ ap (option_map (λ (x : RowTree). called_so_far z j)) at) in
          set_past (each (λ k x. called_so_far z k) L) j (unwrap_or (slice_get (each (λ k x. called_so_far z k) L) j) [] ++ z ∷ []) past
          ∙ sym (set_past (each (λ k x. called_so_far z k) L) j (called_so_far z j ++ z ∷ []) past)
          ∙ put-there (called_so_far z) z j L

  pub called-next : (z : ℕ) (e : RowTree) (old new : List (List ℕ)) → slice_get L z ≡ Some e → old ≡ each (λ k x. called_so_far z k) L → new ≡ put_behind old z (own_interface_of e)
      → new ≡ each (λ k x. called_so_far (z + 1) k) L
  called-next z e old new at are put =
      put ∙ ap (λ (all : List (List ℕ)). put_behind all z (own_interface_of e)) are ∙ put-by z (own_interface_of e)
      ∙ each-same (λ k. called_so_far z k ++ (if option_eq nat_eq (own_interface_of e) (Some k) then z ∷ [] else [])) (λ k. called_so_far (z + 1) k) L (λ k. sym (one-more z k e at))

  -- and all of them
  pub called-all : (z : ℕ) → length L ≤ z → each (λ k x. called_so_far z k) L ≡ each (λ k x. called_in L k) L
  unfolding called_in
  called-all z past =
      let count = length-enumerate 0 L in
      let all = take_all z (enumerate_from 0 L) (omega (arith, past, count)) in
      λ t. each (λ k x. map (λ p. p.0) (filter (λ p. is_called p.1 && option_eq nat_eq (interface_of L p.1) (Some k)) (all t))) L

-- what is called stands in the listing
pub called-within : (L : List RowTree) (i : ℕ) → All (λ n. n < length L) (called_in L i)
unfolding called_in
called-within L i = all-has (λ (n : ℕ). n < length L) (places_where (λ e. is_called e && option_eq nat_eq (interface_of L e) (Some i)) L) there
  where
    there : (n : ℕ) → Has (places_where (λ e. is_called e && option_eq nat_eq (interface_of L e) (Some i)) L) n → n < length L
    there n is =
        let at = at-has (places_where (λ e. is_called e && option_eq nat_eq (interface_of L e) (Some i)) L) n is in
        let place = passing-place (λ (e : RowTree). is_called e && option_eq nat_eq (interface_of L e) (Some i)) 0 L at.0 n at.1 in
        let within = slice_get_within L place.0 place.1 place.3 in
        omega (arith, within, place.2)

-- what stands past the last offers nothing
pub offered-past : (L : List RowTree) (i : ℕ) (name : List ℕ) → length L ≤ i → offered L i name ≡ None
unfolding offered offers
offered-past L i name past =
    let none = slice_get_past L i past in
    ap₂ (λ (own above : List ℕ). find (λ (n : ℕ). bytes_eq name (name_at L n)) (own ++ flat_map (called_in L) above)) (called_in-past L i none) (ancestors-past L i none)

pub all-offered : (L : List RowTree) (i z : ℕ) (name : List ℕ) → length L ≤ z → (if nat_lt i z then offered L i name else None) ≡ offered L i name
all-offered L i z name all = by (nat_lt i z) refl
  where
    by : (b : Bool) → nat_lt i z ≡ b → (if b then offered L i name else None) ≡ offered L i name
    by true e = refl
    by false e =
        let beyond : z ≤ i = grind (arith, nat_tests, e) in
        let past : length L ≤ i = omega (arith, all, beyond) in
        sym (offered-past L i name past)
