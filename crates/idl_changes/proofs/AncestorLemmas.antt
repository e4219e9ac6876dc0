-- What is reached from base to base, and the walk that finds it.
use Rattle.std.proofs.Common.{◌≡◌, ◌∙◌, ◌+◌, ◌<◌, ◌≤◌, ◌++◌, ◌∷◌, ◌&&◌, ◌||◌, ◌⊎◌, [], ℕ, zero, suc, All, Bool, Less, List, None, Option, Some, ap, ap₂, append-nil, arith, cond, false, filter, filter_map, get_or, if◌then◌else◌, inl, inr, length, length-append, nat_cmp, nat_eq, not, refl, subst, sym, take, true}
use Rattle.std.specs.List.{cons_option, list_any, slice_get}
use Rattle.std.specs.Option.{option_map_or, option_to_list}
use Rattle.std.proofs.lemmas.Bool.{false≢true}
use Rattle.std.proofs.lemmas.Bool.Decides.{nat_tests}
use Rattle.std.proofs.lemmas.List.{take_more}
use Rattle.std.proofs.lemmas.List.Elements.{filter_map-append}
use Rattle.std.proofs.lemmas.List.Folds.{list_any-append}
use Rattle.std.proofs.lemmas.Option.{slice_get_within}
use Rattle.idl_base.specs.Exact.{same_number}
use Rattle.idl_changes.specs.Listing.{bases_at, bases_of, interface_at}
use Rattle.idl_changes.specs.Offered.{base_places, is_reached, last_first}
use Rattle.idl_changes.specs.Tables.{count_besides}
use Rattle.idl_changes.proofs.EntryLemmas.{interface-found}
use Rattle.idl_changes.proofs.HasLemmas.{Has, all-has, has-appended, has-back, has-either, has-first, has-front, has-holds, has-rest, no-test, same-tests}
use Rattle.idl_changes.proofs.SetLemmas.{or-false}
use Rattle.idl_repo.specs.declared.details.reference.Reference.{Reference}
use Rattle.idl_repo.specs.declared.details.row_tree.RowTree.{RowTree}

-- ---- the places before a bound that pass a test

pub last_first-none : (z : ℕ) → last_first (λ n. false) z ≡ []
last_first-none zero = refl
last_first-none (suc z) = last_first-none z

pub last_first-same : (test other : ℕ → Bool) (z : ℕ) → ((n : ℕ) → n < z → test n ≡ other n) → last_first test z ≡ last_first other z
last_first-same test other zero same = refl
last_first-same test other (suc z) same =
    let last : z < suc z = omega arith in
    let before : (n : ℕ) → n < z → test n ≡ other n = λ n within. (let below : n < suc z = omega (arith, within) in same n below) in
    ap₂ (λ (b : Bool) (ns : List ℕ). if b then z ∷ ns else ns) (same z last) (last_first-same test other z before)

pub last_first-has : (test : ℕ → Bool) (z n : ℕ) → Has (last_first test z) n → (n < z) × (test n ≡ true)
last_first-has test zero n is = cc
last_first-has test (suc z) n is = by (test z) refl (last_first-has test z n) is
  where
    by : (b : Bool) → test z ≡ b → (Has (last_first test z) n → (n < z) × (test n ≡ true))
        → Has (if b then z ∷ last_first test z else last_first test z) n → (n < suc z) × (test n ≡ true)
    by true e rest h = elim (has-either z n (last_first test z) h) [
      | inl same ↦ (omega (arith, same), ap test same ∙ e)
      | inr there ↦ let below = rest there in (omega (arith, below.0), below.1)
    ]
    by false e rest h = let below = rest h in (omega (arith, below.0), below.1)

pub has-last_first : (test : ℕ → Bool) (z n : ℕ) → n < z → test n ≡ true → Has (last_first test z) n
has-last_first test zero n within is = absurd (omega (arith, within))
has-last_first test (suc z) n within is = by (nat_eq n z) refl (test z) refl (λ lower. has-last_first test z n lower is)
  where
    below : nat_eq n z ≡ false → n < z
    below e = grind (arith, nat_tests, within, e)

    by : (a : Bool) → nat_eq n z ≡ a → (b : Bool) → test z ≡ b → (n < z → Has (last_first test z) n)
        → Has (if b then z ∷ last_first test z else last_first test z) n
    by true e true h rest = subst (λ (m : ℕ). Has (z ∷ last_first test z) m) (sym (same_number n z e)) (has-first z (last_first test z))
    by true e false h rest = absurd (false≢true (sym h ∙ ap test (sym (same_number n z e)) ∙ is))
    by false e true h rest = has-rest z n (last_first test z) (rest (below e))
    by false e false h rest = rest (below e)

-- where the last that passes goes
last_first-next : (test other : ℕ → Bool) (z k : ℕ) → k < z → test k ≡ true → ((n : ℕ) → k < n → test n ≡ false) → ((n : ℕ) → n < k → test n ≡ other n)
    → ((n : ℕ) → k ≤ n → other n ≡ false) → last_first test z ≡ k ∷ last_first other z
last_first-next test other zero k within is above below none = absurd (omega (arith, within))
last_first-next test other (suc z) k within is above below none =
    by (nat_eq k z) refl (λ lower. last_first-next test other z k lower is above below none)
  where
    by : (b : Bool) → nat_eq k z ≡ b → (k < z → last_first test z ≡ k ∷ last_first other z)
        → (if test z then z ∷ last_first test z else last_first test z) ≡ k ∷ (if other z then z ∷ last_first other z else last_first other z)
    by true e rest =
        let same : k ≡ z = same_number k z e in
        let here : k ≤ z = omega (arith, same) in
        let before : (n : ℕ) → n < z → test n ≡ other n = λ n lower. (let less : n < k = omega (arith, lower, same) in below n less) in
        ap (λ (b : Bool). if b then z ∷ last_first test z else last_first test z) (ap test (sym same) ∙ is)
        ∙ ap₂ (λ (n : ℕ) (ns : List ℕ). n ∷ ns) (sym same) (last_first-same test other z before)
        ∙ ap (λ (b : Bool). k ∷ (if b then z ∷ last_first other z else last_first other z)) (sym (none z here))
    by false e rest =
        let lower : k < z = grind (arith, nat_tests, within, e) in
        let here : k ≤ z = omega (arith, lower) in
        ap (λ (b : Bool). if b then z ∷ last_first test z else last_first test z) (above z lower)
        ∙ rest lower
        ∙ ap (λ (b : Bool). k ∷ (if b then z ∷ last_first other z else last_first other z)) (sym (none z here))

less-test : (n k : ℕ) → nat_cmp n k ≡ Less → n < k
less-test n k is = grind (arith, nat_tests, is)

-- where the last of these goes
pub keys-next : (z last : ℕ) (old popped : List ℕ) → old ≡ popped ++ last ∷ [] → All (λ n. nat_cmp n last ≡ Less) popped → All (λ n. n < z) old
    → All (λ n. n < z) popped × (last_first (λ n. list_any (nat_eq n) old) z ≡ last ∷ last_first (λ n. list_any (nat_eq n) popped) z)
keys-next z last old popped removed less all = (
  all-has (λ (n : ℕ). n < z) popped (λ n is. within n (old-has n (has-front n popped (last ∷ []) is))),
  last_first-next (λ (n : ℕ). list_any (nat_eq n) old) (λ (n : ℕ). list_any (nat_eq n) popped) z last (within last there) there above below none,
)
  where
    old-has : (n : ℕ) → Has (popped ++ last ∷ []) n → Has old n
    old-has n is = ap (list_any (nat_eq n)) removed ∙ is

    within : (n : ℕ) → Has old n → n < z
    within n is = has-holds (λ (m : ℕ). m < z) old n is all

    there : Has old last
    there = old-has last (has-back last popped (last ∷ []) (has-first last []))

    before : (n : ℕ) → Has popped n → n < last
    before n is = less-test n last (has-holds (λ (m : ℕ). nat_cmp m last ≡ Less) popped n is less)

    one : (n : ℕ) → Has (last ∷ []) n → n ≡ last
    one n is = elim (has-either last n [] is) [ inl e ↦ e | inr h ↦ cc ]

    none : (n : ℕ) → last ≤ n → list_any (nat_eq n) popped ≡ false
    none n past = no-test (list_any (nat_eq n) popped) (λ is. (let lower = before n is in omega (arith, past, lower)))

    parts : (n : ℕ) → Has old n → Has popped n ⊎ Has (last ∷ []) n
    parts n is = has-appended n popped (last ∷ []) (sym (ap (list_any (nat_eq n)) removed) ∙ is)

    above : (n : ℕ) → last < n → list_any (nat_eq n) old ≡ false
    above n past = no-test (list_any (nat_eq n) old)
        (λ is. elim (parts n is) [
          | inl a ↦ let lower = before n a in omega (arith, past, lower)
          | inr b ↦ let same = one n b in omega (arith, past, same)
        ])

    below : (n : ℕ) → n < last → list_any (nat_eq n) old ≡ list_any (nat_eq n) popped
    below n lower = same-tests (list_any (nat_eq n) old) (list_any (nat_eq n) popped)
        (λ is. elim (parts n is) [
          | inl a ↦ a
          | inr b ↦ let same = one n b in absurd (omega (arith, lower, same))
        ])
        (λ is. old-has n (has-front n popped (last ∷ []) is))

-- ---- a set whose last was not found

pub no-keys : {Q : Type 0} (keys : List ℕ) → Q × (0 < length keys → false ≡ true) → keys ≡ []
no-keys [] variant = refl
no-keys (k ∷ keys) variant = let never = variant.1 (omega arith) in cc

-- ---- what is reached

or-either : (a b c : Bool) → (a || (b && c)) ≡ true → (a ≡ true) ⊎ ((b ≡ true) × (c ≡ true))
or-either true b c h = inl refl
or-either false true true h = inr (refl, refl)
or-either false true false h = cc
or-either false false c h = cc

or-second : (a b : Bool) → b ≡ true → (a || b) ≡ true
or-second true b h = refl
or-second false b h = h

module _ (L : List RowTree) where
  pub reached-either : (z i n : ℕ) → is_reached L (suc z) i n ≡ true → (is_reached L z i n ≡ true) ⊎ ((is_reached L z i z ≡ true) × (is_reached L z z n ≡ true))
  reached-either z i n is = or-either (is_reached L z i n) (is_reached L z i z) (is_reached L z z n) is

  reached-more : (z i n : ℕ) → is_reached L z i n ≡ true → is_reached L (suc z) i n ≡ true
  reached-more z i n is = ap (λ (b : Bool). b || (is_reached L z i z && is_reached L z z n)) is

  reached-through : (z i n : ℕ) → is_reached L z i z ≡ true → is_reached L z z n ≡ true → is_reached L (suc z) i n ≡ true
  reached-through z i n there on = or-second (is_reached L z i n) (is_reached L z i z && is_reached L z z n) (ap₂ (λ (a b : Bool). a && b) there on)

  pub base-reached : (z i n : ℕ) → Has (base_places L i) n → is_reached L z i n ≡ true
  base-reached zero i n is = is
  base-reached (suc z) i n is = reached-more z i n (base-reached z i n is)

  -- and on from there
  pub reached-on : (z i m n : ℕ) → m < z → is_reached L z i m ≡ true → is_reached L z m n ≡ true → is_reached L z i n ≡ true
  reached-on zero i m n within there on = absurd (omega (arith, within))
  reached-on (suc z) i m n within there on = by (nat_eq m z) refl (reached-on z)
    where
      to-last : is_reached L (suc z) i z ≡ true → is_reached L z i z ≡ true
      to-last h = elim (reached-either z i z h) [ inl a ↦ a | inr b ↦ b.0 ]

      from-last : is_reached L (suc z) z n ≡ true → is_reached L z z n ≡ true
      from-last h = elim (reached-either z z n h) [ inl a ↦ a | inr b ↦ b.1 ]

      by : (b : Bool) → nat_eq m z ≡ b
          → ((j k l : ℕ) → k < z → is_reached L z j k ≡ true → is_reached L z k l ≡ true → is_reached L z j l ≡ true)
          → is_reached L (suc z) i n ≡ true
      by true e before =
          let same : z ≡ m = sym (same_number m z e) in
          reached-through z i n (to-last (ap (is_reached L (suc z) i) same ∙ there)) (from-last (ap (λ (k : ℕ). is_reached L (suc z) k n) same ∙ on))
      by false e before =
          let lower : m < z = grind (arith, nat_tests, within, e) in
          elim (reached-either z i m there) [
            | inl a ↦ elim (reached-either z m n on) [
              | inl b ↦ reached-more z i n (before i m n lower a b)
              | inr b ↦ reached-through z i n (before i m z lower a b.0) b.1
            ]
            | inr a ↦ elim (reached-either z m n on) [
              | inl b ↦ reached-through z i n a.0 (before z m n lower a.1 b)
              | inr b ↦ reached-through z i n a.0 b.1
            ]
          ]

  -- what holds of interfaces holds of bases, and so of all that is reached
  base-holds : (P : ℕ → Type 0) → ((path : List ℕ) (k : ℕ) → interface_at L path ≡ Some k → P k) → (rs : List Reference) (n : ℕ)
      → Has (filter_map (λ (r : Reference). interface_at L r.path) rs) n → P n
  base-holds P each [] n is = cc
  base-holds P each (r ∷ rs) n is = by (interface_at L r.path) refl (base-holds P each rs n) is
    where
      by : (found : Option ℕ) → interface_at L r.path ≡ found → (Has (filter_map (λ (s : Reference). interface_at L s.path) rs) n → P n)
          → Has (cons_option found (filter_map (λ (s : Reference). interface_at L s.path) rs)) n → P n
      by None e rest h = rest h
      by (Some k) e rest h = elim (has-either k n (filter_map (λ (s : Reference). interface_at L s.path) rs) h) [
        | inl same ↦ subst P (sym same) (each r.path k e)
        | inr there ↦ rest there
      ]

  pub reached-holds : (P : ℕ → Type 0) → ((path : List ℕ) (k : ℕ) → interface_at L path ≡ Some k → P k) → (z i n : ℕ) → is_reached L z i n ≡ true → P n
  reached-holds P each zero i n is = base-holds P each (bases_at L i) n is
  reached-holds P each (suc z) i n is = elim (reached-either z i n is) [
    | inl a ↦ reached-holds P each z i n a
    | inr b ↦ reached-holds P each z z n b.1
  ]

  pub interface-within : (path : List ℕ) (k : ℕ) → interface_at L path ≡ Some k → k < length L
  interface-within path k is = let there = interface-found L path k is in slice_get_within L k there.0 there.1

  -- from what isn't there nothing is
  pub none-reached : (z i n : ℕ) → base_places L i ≡ [] → is_reached L z i n ≡ false
  none-reached zero i n none = ap (list_any (nat_eq n)) none
  none-reached (suc z) i n none =
      ap₂ (λ (a b : Bool). a || (b && is_reached L z z n)) (none-reached z i n none) (none-reached z i z none)

  -- these have all that is reached if they have all bases
  reached-has : (i : ℕ) (found : List ℕ) → ((n : ℕ) → Has (base_places L i) n → Has found n) → ((m n : ℕ) → Has found m → Has (base_places L m) n → Has found n)
      → (z m n : ℕ) → (m ≡ i) ⊎ Has found m → is_reached L z m n ≡ true → Has found n
  reached-has i found own closed zero m n start is = elim start [
    | inl e ↦ own n (ap (λ (k : ℕ). list_any (nat_eq n) (base_places L k)) (sym e) ∙ is)
    | inr h ↦ closed m n h is
  ]
  reached-has i found own closed (suc z) m n start is = elim (reached-either z m n is) [
    | inl a ↦ reached-has i found own closed z m n start a
    | inr b ↦ reached-has i found own closed z z n (inr (reached-has i found own closed z m z start b.0)) b.1
  ]

-- ---- the walk from an interface over bases: these are found, and the bases of those ahead are still
-- to come

pub record IsWalk (L : List RowTree) (i : ℕ) (found ahead : List ℕ) : Type 0 where
  pub own : (n : ℕ) → Has (base_places L i) n → Has found n
  pub reached : (n : ℕ) → Has found n → is_reached L (length L) i n ≡ true
  pub closed : (m : ℕ) → Has found m → Has ahead m ⊎ ((n : ℕ) → Has (base_places L m) n → Has found n)
  pub waiting : (m : ℕ) → Has ahead m → Has found m

module _ (L : List RowTree) (i : ℕ) where
  -- these are those and the bases, and ahead are those that are new
  abbrev pub HaveBases : ℕ → (new old : List ℕ) → Type 0
  HaveBases place new old = (n : ℕ) → list_any (nat_eq n) new ≡ (list_any (nat_eq n) old || list_any (nat_eq n) (base_places L place))

  abbrev pub AreAhead : (later ahead new old : List ℕ) → Type 0
  AreAhead later ahead new old = (n : ℕ) → list_any (nat_eq n) later ≡ (list_any (nat_eq n) ahead || (list_any (nat_eq n) new && not (list_any (nat_eq n) old)))

  module _ (place : ℕ) (new old later ahead : List ℕ) (have : HaveBases place new old) (wait : AreAhead later ahead new old) where
    goes-on : (n : ℕ) → Has old n → Has new n
    goes-on n is = have n ∙ ap (λ (b : Bool). b || list_any (nat_eq n) (base_places L place)) is

    comes : (n : ℕ) → Has (base_places L place) n → Has new n
    comes n is = have n ∙ or-second (list_any (nat_eq n) old) (list_any (nat_eq n) (base_places L place)) is

    stays : (n : ℕ) → Has ahead n → Has later n
    stays n is = wait n ∙ ap (λ (b : Bool). b || (list_any (nat_eq n) new && not (list_any (nat_eq n) old))) is

    is-ahead : (n : ℕ) → Has new n → list_any (nat_eq n) old ≡ false → Has later n
    is-ahead n is none =
        wait n
        ∙ or-second (list_any (nat_eq n) ahead) (list_any (nat_eq n) new && not (list_any (nat_eq n) old)) (ap₂ (λ (a b : Bool). a && not b) is none)

    was-or-comes : (n : ℕ) → Has new n → Has old n ⊎ Has (base_places L place) n
    was-or-comes n is = by (list_any (nat_eq n) old) (list_any (nat_eq n) (base_places L place)) (sym (have n) ∙ is)
      where
        by : (a b : Bool) → (a || b) ≡ true → (a ≡ true) ⊎ (b ≡ true)
        by true b h = inl refl
        by false b h = inr h

    was-or-found : (n : ℕ) → Has later n → Has ahead n ⊎ Has new n
    was-or-found n is = elim (or-either (list_any (nat_eq n) ahead) (list_any (nat_eq n) new) (not (list_any (nat_eq n) old)) (sym (wait n) ∙ is)) [
      | inl a ↦ inl a
      | inr b ↦ inr b.0
    ]

  -- at first
  pub walk-begin : (new old later ahead : List ℕ) → old ≡ [] → ahead ≡ [] → HaveBases i new old → AreAhead later ahead new old → IsWalk L i new later
  walk-begin new old later ahead none nothing have wait = record {
    own = comes i new old later ahead have wait;
    reached = λ n is. elim (was-or-comes i new old later ahead have wait n is) [
      | inl a ↦ let never : false ≡ true = sym (ap (list_any (nat_eq n)) none) ∙ a in cc
      | inr b ↦ base-reached L (length L) i n b
    ];
    closed = λ m is. inl (is-ahead i new old later ahead have wait m is (ap (list_any (nat_eq m)) none));
    waiting = λ m is. elim (was-or-found i new old later ahead have wait m is) [
      | inl a ↦ let never : false ≡ true = sym (ap (list_any (nat_eq m)) nothing) ∙ a in cc
      | inr b ↦ b
    ];
  }

  -- and where one that was ahead goes, and its bases come
  pub walk-next : (next : ℕ) (found ahead popped new later : List ℕ) → ahead ≡ popped ++ next ∷ [] → IsWalk L i found ahead
      → HaveBases next new found → AreAhead later popped new found → IsWalk L i new later
  walk-next next found ahead popped new later removed walk have wait = record {
    own = λ n is. go n (walk.own n is);
    reached = λ n is. elim (was-or-comes next new found later popped have wait n is) [
      | inl a ↦ walk.reached n a
      | inr b ↦ reached-on L (length L) i next n within there (base-reached L (length L) next n b)
    ];
    closed = λ m is. by m is (list_any (nat_eq m) found) refl;
    waiting = λ m is. elim (was-or-found next new found later popped have wait m is) [
      | inl a ↦ go m (walk.waiting m (ap (list_any (nat_eq m)) removed ∙ has-front m popped (next ∷ []) a))
      | inr b ↦ b
    ];
  }
    where
      go : (n : ℕ) → Has found n → Has new n
      go = goes-on next new found later popped have wait

      there : is_reached L (length L) i next ≡ true
      there = walk.reached next (walk.waiting next (ap (list_any (nat_eq next)) removed ∙ has-back next popped (next ∷ []) (has-first next [])))

      within : next < length L
      within = reached-holds L (λ (n : ℕ). n < length L) (interface-within L) (length L) i next there

      own-bases : (m : ℕ) → m ≡ next → (n : ℕ) → Has (base_places L m) n → Has new n
      own-bases m same n is = comes next new found later popped have wait n (ap (λ (k : ℕ). list_any (nat_eq n) (base_places L k)) (sym same) ∙ is)

      was-ahead : (m : ℕ) → Has ahead m → Has later m ⊎ ((n : ℕ) → Has (base_places L m) n → Has new n)
      was-ahead m is = elim (has-appended m popped (next ∷ []) (sym (ap (list_any (nat_eq m)) removed) ∙ is)) [
        | inl a ↦ inl (stays next new found later popped have wait m a)
        | inr b ↦ elim (has-either next m [] b) [ inl same ↦ inr (own-bases m same) | inr h ↦ cc ]
      ]

      by : (m : ℕ) → Has new m → (b : Bool) → list_any (nat_eq m) found ≡ b → Has later m ⊎ ((n : ℕ) → Has (base_places L m) n → Has new n)
      by m is true e = elim (walk.closed m e) [
        | inl a ↦ was-ahead m a
        | inr all ↦ inr (λ n h. go n (all n h))
      ]
      by m is false e = inl (is-ahead next new found later popped have wait m is e)

  -- at last nothing is ahead
  pub walk-end : (found ahead : List ℕ) → ahead ≡ [] → IsWalk L i found ahead
      → All (λ n. n < length L) found × (last_first (λ n. list_any (nat_eq n) found) (length L) ≡ last_first (is_reached L (length L) i) (length L))
  walk-end found ahead none walk = (
    all-has (λ (n : ℕ). n < length L) found (λ n is. reached-holds L (λ (m : ℕ). m < length L) (interface-within L) (length L) i n (walk.reached n is)),
    last_first-same (λ (n : ℕ). list_any (nat_eq n) found) (is_reached L (length L) i) (length L)
        (λ n within. same-tests (list_any (nat_eq n) found) (is_reached L (length L) i n) (walk.reached n) (λ is. reached-has L i found walk.own closed (length L) i n (inl refl) is)),
  )
    where
      closed : (m n : ℕ) → Has found m → Has (base_places L m) n → Has found n
      closed m n there is = elim (walk.closed m there) [
        | inl a ↦ let never : false ≡ true = sym (ap (list_any (nat_eq m)) none) ∙ a in cc
        | inr all ↦ all n is
      ]

-- ---- one place more: it was found already, or it is found now and stands before the end

module _ (place : Option ℕ) (new old later ahead : List ℕ)
    (have : (n : ℕ) → list_any (nat_eq n) new ≡ (list_any (nat_eq n) old || option_map_or (nat_eq n) place false))
    (put : later ≡ ahead ++ filter (λ n. not (list_any (nat_eq n) old)) (option_to_list place)) where
  abbrev IsSame : Type 0
  IsSame = ((n : ℕ) → list_any (nat_eq n) new ≡ list_any (nat_eq n) old) × (later ≡ ahead)

  abbrev IsMore : ℕ → Type 0
  IsMore k = (list_any (nat_eq k) old ≡ false) × ((n : ℕ) → list_any (nat_eq n) new ≡ (list_any (nat_eq n) old || nat_eq n k)) × (later ≡ ahead ++ k ∷ [])

  put-either : IsSame ⊎ ((k : ℕ) × (place ≡ Some k) × IsMore k)
  put-either = by place refl
    where
      again : (k : ℕ) → list_any (nat_eq k) old ≡ true → (n : ℕ) → (list_any (nat_eq n) old || nat_eq n k) ≡ list_any (nat_eq n) old
      again k e n = one (nat_eq n k) refl
        where
          one : (b : Bool) → nat_eq n k ≡ b → (list_any (nat_eq n) old || b) ≡ list_any (nat_eq n) old
          one false h = or-false (list_any (nat_eq n) old)
          one true h =
              let is : list_any (nat_eq n) old ≡ true = ap (λ (m : ℕ). list_any (nat_eq m) old) (same_number n k h) ∙ e in
              ap (λ (b : Bool). b || true) is ∙ sym is

      has : (o : Option ℕ) → place ≡ o → (n : ℕ) → list_any (nat_eq n) new ≡ (list_any (nat_eq n) old || option_map_or (nat_eq n) o false)
      has o at n = have n ∙ ap (λ (p : Option ℕ). list_any (nat_eq n) old || option_map_or (nat_eq n) p false) at

      behind : (o : Option ℕ) → place ≡ o → later ≡ ahead ++ filter (λ n. not (list_any (nat_eq n) old)) (option_to_list o)
      behind o at = put ∙ ap (λ (p : Option ℕ). ahead ++ filter (λ n. not (list_any (nat_eq n) old)) (option_to_list p)) at

      test : (k : ℕ) (b : Bool) → place ≡ Some k → list_any (nat_eq k) old ≡ b → IsSame ⊎ ((k : ℕ) × (place ≡ Some k) × IsMore k)
      test k true at e =
          inl (λ n. has (Some k) at n ∙ again k e n, behind (Some k) at ∙ ap (λ (b : Bool). ahead ++ cond (not b) (k ∷ []) []) e ∙ append-nil ahead)
      test k false at e = inr (k, at, (e, has (Some k) at, behind (Some k) at ∙ ap (λ (b : Bool). ahead ++ cond (not b) (k ∷ []) []) e))

      by : (o : Option ℕ) → place ≡ o → IsSame ⊎ ((k : ℕ) × (place ≡ Some k) × IsMore k)
      by None at = inl (λ n. has None at n ∙ or-false (list_any (nat_eq n) old), behind None at ∙ append-nil ahead)
      by (Some k) at = test k (list_any (nat_eq k) old) at refl

  -- those ahead
  pub ahead-next : (first start : List ℕ) → ((n : ℕ) → Has first n → Has old n)
      → ((n : ℕ) → list_any (nat_eq n) ahead ≡ (list_any (nat_eq n) start || (list_any (nat_eq n) old && not (list_any (nat_eq n) first))))
      → (n : ℕ) → list_any (nat_eq n) later ≡ (list_any (nat_eq n) start || (list_any (nat_eq n) new && not (list_any (nat_eq n) first)))
  ahead-next first start within so_far n = elim put-either [
    | inl same ↦
        ap (list_any (nat_eq n)) same.1 ∙ so_far n
        ∙ ap (λ (b : Bool). list_any (nat_eq n) start || (b && not (list_any (nat_eq n) first))) (sym (same.0 n))
    | inr more ↦
        ap (list_any (nat_eq n)) more.2.2
        ∙ list_any-append (nat_eq n) ahead (more.0 ∷ [])
        ∙ ap (λ (b : Bool). b || (nat_eq n more.0 || false)) (so_far n)
        ∙ by (list_any (nat_eq n) start) (list_any (nat_eq n) old) (list_any (nat_eq n) first) (nat_eq n more.0)
        (λ e. no-test (list_any (nat_eq n) first)
        (λ h. false≢true (sym more.2.0 ∙ ap (λ (m : ℕ). list_any (nat_eq m) old) (sym (same_number n more.0 e)) ∙ within n h)))
        ∙ ap (λ (b : Bool). list_any (nat_eq n) start || (b && not (list_any (nat_eq n) first))) (sym (more.2.1 n))
  ]
    where
      by : (s f a e : Bool) → (e ≡ true → a ≡ false) → ((s || (f && not a)) || (e || false)) ≡ (s || ((f || e) && not a))
      by true f a e = λ other. refl
      by false true true true = λ other. (let never : true ≡ false = other refl in cc)
      by false true true false = λ other. refl
      by false true false true = λ other. refl
      by false true false false = λ other. refl
      by false false true true = λ other. (let never : true ≡ false = other refl in cc)
      by false false true false = λ other. refl
      by false false false true = λ other. refl
      by false false false false = λ other. refl

  -- and how many they are, with those that are left
  one-less : (k z : ℕ) → k < z → IsMore k → length (last_first (λ n. not (list_any (nat_eq n) new)) z) + 1 ≡ length (last_first (λ n. not (list_any (nat_eq n) old)) z)
  one-less k zero within more = absurd (omega (arith, within))
  one-less k (suc z) within more = by (nat_eq k z) refl (λ lower. one-less k z lower more)
    where
      fewer : List ℕ
      fewer = last_first (λ n. not (list_any (nat_eq n) new)) z

      all : List ℕ
      all = last_first (λ n. not (list_any (nat_eq n) old)) z

      other : (n : ℕ) → nat_eq n k ≡ false → list_any (nat_eq n) new ≡ list_any (nat_eq n) old
      other n e = more.1 n ∙ ap (λ (b : Bool). list_any (nat_eq n) old || b) e ∙ or-false (list_any (nat_eq n) old)

      count : (a b : Bool) → list_any (nat_eq z) new ≡ a → list_any (nat_eq z) old ≡ b
          → length (if not a then z ∷ fewer else fewer) + 1 ≡ length (if not b then z ∷ all else all)
          → length (if not (list_any (nat_eq z) new) then z ∷ fewer else fewer) + 1 ≡ length (if not (list_any (nat_eq z) old) then z ∷ all else all)
      count a b is was same =
          ap (λ (c : Bool). length (if not c then z ∷ fewer else fewer) + 1) is ∙ same ∙ ap (λ (c : Bool). length (if not c then z ∷ all else all)) (sym was)

      by : (b : Bool) → nat_eq k z ≡ b → (k < z → length fewer + 1 ≡ length all)
          → length (if not (list_any (nat_eq z) new) then z ∷ fewer else fewer) + 1 ≡ length (if not (list_any (nat_eq z) old) then z ∷ all else all)
      by true e rest =
          let same : k ≡ z = same_number k z e in
          let now : list_any (nat_eq k) new ≡ true = more.1 k ∙ or-second (list_any (nat_eq k) old) (nat_eq k k) (has-own k) in
          let below : fewer ≡ all = last_first-same (λ n. not (list_any (nat_eq n) new)) (λ n. not (list_any (nat_eq n) old)) z
          (λ n lower. (let apart : nat_eq n k ≡ false = grind (arith, nat_tests, lower, same) in ap not (other n apart)))
          in
          count true false (ap (λ (m : ℕ). list_any (nat_eq m) new) (sym same) ∙ now) (ap (λ (m : ℕ). list_any (nat_eq m) old) (sym same) ∙ more.0) (omega (arith, ap length below))
        where
          has-own : (m : ℕ) → nat_eq m m ≡ true
          has-own m = grind (arith, nat_tests)
      by false e rest =
          let lower : k < z = grind (arith, nat_tests, within, e) in
          let apart : nat_eq z k ≡ false = grind (arith, nat_tests, lower) in
          let below = rest lower in
          one (list_any (nat_eq z) old) refl below (other z apart)
        where
          one : (b : Bool) → list_any (nat_eq z) old ≡ b → length fewer + 1 ≡ length all → list_any (nat_eq z) new ≡ list_any (nat_eq z) old
              → length (if not (list_any (nat_eq z) new) then z ∷ fewer else fewer) + 1 ≡ length (if not (list_any (nat_eq z) old) then z ∷ all else all)
          one true h below same = count true true (same ∙ h) h below
          one false h below same = count false false (same ∙ h) h (omega (arith, below))

  pub count-next : (L : List RowTree) → ((k : ℕ) → place ≡ Some k → k < length L) → length later + count_besides L new ≡ length ahead + count_besides L old
  count-next L within = elim put-either [
    | inl same ↦
        ap₂ (λ (ks ns : List ℕ). length ks + length ns) same.1
        (last_first-same (λ n. not (list_any (nat_eq n) new)) (λ n. not (list_any (nat_eq n) old)) (length L) (λ n lower. ap not (same.0 n)))
    | inr more ↦
        let fewer = one-less more.0 (length L) (within more.0 more.1) more.2 in
        let longer = length-append ahead (more.0 ∷ []) in
        omega (arith, ap length more.2.2, longer, fewer)
  ]

-- at first none is new
pub none-new : (a f : Bool) → a ≡ (a || (f && not f))
none-new true f = refl
none-new false true = refl
none-new false false = refl

-- one reference more, among the places of those so far
one-found : (n : ℕ) (found : Option ℕ) → list_any (nat_eq n) (cons_option found []) ≡ option_map_or (nat_eq n) found false
one-found n None = refl
one-found n (Some k) = or-false (nat_eq n k)

pub bases-next : {X : Type 0} (f : X → Option ℕ) (rs : List X) (i : ℕ) (r : X) (n : ℕ) (start old new : Bool) → i < length rs → r ≡ get_or rs i r
    → old ≡ (start || list_any (nat_eq n) (filter_map f (take i rs)))
    → new ≡ (old || option_map_or (nat_eq n) (f r) false)
    → new ≡ (start || list_any (nat_eq n) (filter_map f (take (i + 1) rs)))
bases-next {X} f rs i r n start old new within is so_far put =
    put
    ∙ ap (λ (b : Bool). b || option_map_or (nat_eq n) (f r) false) so_far
    ∙ by start (list_any (nat_eq n) (filter_map f (take i rs))) (option_map_or (nat_eq n) (f r) false)
    ∙ ap (λ (b : Bool). start || (list_any (nat_eq n) (filter_map f (take i rs)) || b)) (sym (one-found n (f r)))
    ∙ ap (λ (b : Bool). start || b) (sym (list_any-append (nat_eq n) (filter_map f (take i rs)) (filter_map f (r ∷ []))))
    ∙ ap (λ (ks : List ℕ). start || list_any (nat_eq n) ks) (sym (filter_map-append f (take i rs) (r ∷ [])))
    ∙ ap (λ (xs : List X). start || list_any (nat_eq n) (filter_map f xs)) (sym next)
  where
    next : take (i + 1) rs ≡ take i rs ++ r ∷ []
    next = take_more rs i r within ∙ ap (λ (x : X). take i rs ++ x ∷ []) (sym is)

    by : (s a b : Bool) → ((s || a) || b) ≡ (s || (a || b))
    by true a b = refl
    by false a b = refl

-- an entry that isn't there has no bases
pub none-there : (L : List RowTree) (place : ℕ) → slice_get L place ≡ None → base_places L place ≡ []
none-there L place past =
    ap (λ (o : Option RowTree). filter_map (λ r. interface_at L r.path) (option_map_or (λ (e : RowTree). bases_of e.details) o [])) past
