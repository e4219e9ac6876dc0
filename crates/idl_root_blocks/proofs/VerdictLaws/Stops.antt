-- The scopes that may stop the uses that a unit adds.
use Rattle.std.proofs.Common.{◌≡◌, ◌≢◌, ◌⊎◌, ◌∙◌, ◌≤◌, ◌<◌, ◌-◌, ◌+◌, min, ℕ, zero, suc, Bool, true, false, cond, List, [], ◌∷◌, ◌++◌, length, map, Option, None, refl, sym, ap, subst, arith, inl, inr}
use Rattle.std.proofs.lemmas.List.Elements.{All-append, All-cons, All-head, All-nil, All-tail, All-weaker, Contains-push}
use Rattle.std.specs.Prelude.{All, Contains, drop, fold, is_some, take}
use Rattle.idl_root_blocks.proofs.VerdictLaws.Names.{named-path, nameless-path}
use Rattle.idl_root_blocks.proofs.VerdictLaws.Stacks.{AreShorter, AreStacked, AreUnder, StandsIn, under-opened, under-shorter}
use Rattle.idl_check_laws.proofs.Fits.ClosingLaws.{IsSettled}
use Rattle.idl_check_laws.proofs.Fits.GrowingLaws.{IsGrown}
use Rattle.idl_check_laws.proofs.Fits.ReachedLaws.{Place, names_in, own}
use Rattle.idl_check_laws.proofs.Fits.WalkingLaws.{IsBegun, IsCursor, begun-named, begun-none}
use Rattle.idl_check_laws.specs.idl_check.tables.Using.{further_uses, uses_of}
use Rattle.idl_entity.specs.Kind.{kind_eq}
use Rattle.idl_entity.specs.declared.entity.Entity.{Entity}
use Rattle.idl_entity.specs.declared.kind.Kind.TheVariants.{Module}
use Rattle.idl_env.proofs.Membership.{Contains-IsIn, IsIn, IsIn-map}
use Rattle.idl_env.specs.Facts.{UnitFacts, answers, entity_in, over, scopes_in, with_addition, key_of, world}
use Rattle.idl_env.specs.Turns.{turns_for}
use Rattle.idl_env.specs.declared.additions.addition.Addition.{Addition}
use Rattle.idl_env.specs.declared.additions.addition.Addition.TheVariants.{Uses, UsesFurther}
use Rattle.idl_env.specs.declared.answering.answer.Answer.{Answer}
use Rattle.idl_env.specs.declared.answering.answer.Scope.{Scope}
use Rattle.idl_env.specs.declared.keys.key.Key.{Key}
use Rattle.idl_env.specs.declared.keys.key.Key.TheVariants.{Cursor, Declared}
use Rattle.idl_env.specs.keys.Key.{key_eq}
use Rattle.idl_block.specs.facts.Answered.{AreStops, Inside, IsStop, Itself, Silent, is_nameless}
use Rattle.idl_scope.specs.Lookup.{before_module, declares_at, extent, reach, reach_by}
use Rattle.idl_scope.specs.Meaning.{own_at, undeclared}
use Rattle.idl_scope.specs.declared.found.Reach.{Reach}

-- ---- numbers

inside_or : (m i : ℕ) → (i ≤ m) ⊎ (m ≤ i)
inside_or zero i = inr (omega arith)
inside_or (suc m) zero = inl (omega arith)
inside_or (suc m) (suc i) = elim (inside_or m i) as (λ _. (suc i ≤ suc m) ⊎ (suc m ≤ suc i)) [ inl h ↦ inl (omega (arith, h)) | inr h ↦ inr (omega (arith, h)) ]

-- ---- uses that go further outward

module _ (bank : Key → Option Answer) where
  abbrev paths : List Place
  paths = map (λ (s : Scope). s.path) (scopes_in (bank Cursor))

  -- a scope that is passed: a nameless one that is open, or one that declares nothing
  abbrev pub IsPassed : Place → Type 0
  IsPassed q = ((is_nameless q ≡ true) × Contains paths q) ⊎ ((is_nameless q ≡ false) × ((n : List ℕ) → entity_in (bank (Declared n q)) ≡ None))

  abbrev IsPassedTo : List Scope → Scope → Type 0
  IsPassedTo [] s = Unit {0}
  IsPassedTo (t ∷ outer) s = IsPassed s.path

  -- each of these scopes but the last is passed, and is deeper than those outward of it
  abbrev pub ArePassed : List Scope → Type 0
  ArePassed [] = Unit {0}
  ArePassed (s ∷ outer) = (AreShorter (length s.path) outer × IsPassedTo outer s) × ArePassed outer

  -- with more of them behind
  abbrev AreDeeper : List Scope → Place → Type 0
  AreDeeper ss q = AreShorter (length q) ss

  module _ (n : List ℕ) where
    stop-of : (path q : Place) → IsPassed q → length path < length q → IsStop bank n path q
    stop-of path q (inl less) longer = Inside less.0 longer less.1
    stop-of path q (inr named) longer = Silent named.0 (named.1 n)

    each : (s : Scope) (ss : List Scope) (before : List Place) → All IsPassed before → All (AreDeeper (s ∷ ss)) before → All (IsStop bank n s.path) before
    each s ss [] passed deeper = All-nil (IsStop bank n s.path)
    each s ss (q ∷ before) passed deeper =
        All-cons (IsStop bank n s.path) q before
        (stop-of s.path q (All-head IsPassed q before passed) (All-head (λ (u : Scope). length u.path < length q) s ss (All-head (AreDeeper (s ∷ ss)) q before deeper)))
        (each s ss before (All-tail IsPassed q before passed) (All-tail (AreDeeper (s ∷ ss)) q before deeper))

    stops-here : (before : List Place) (s : Scope) (ss : List Scope) → All IsPassed before → All (AreDeeper (s ∷ ss)) before
        → Contains (before ++ s.path ∷ []) s.path × All (IsStop bank n s.path) (before ++ s.path ∷ [])
    stops-here before s ss passed deeper = (
      Contains-push before s.path,
      All-append (IsStop bank n s.path) before (s.path ∷ []) (each s ss before passed deeper)
          (All-cons (IsStop bank n s.path) s.path [] (Itself refl) (All-nil (IsStop bank n s.path))),
    )

    further-stops : (before : List Place) (ss : List Scope) → All IsPassed before → All (AreDeeper ss) before → ArePassed ss → All (AreStops bank) (further_uses n before ss)
    further-stops before [] passed deeper are = All-nil (AreStops bank)
    further-stops before (s ∷ []) passed deeper are =
        All-cons (AreStops bank) (UsesFurther n s.path (record { body = s.body; unless = before ++ s.path ∷ [] })) [] (stops-here before s [] passed deeper) (All-nil (AreStops bank))
    further-stops before (s ∷ t ∷ ss) passed deeper are =
        let unless : List Place = before ++ s.path ∷ [] in
        All-cons (AreStops bank) (UsesFurther n s.path (record { body = s.body; unless = unless })) (further_uses n unless (t ∷ ss)) (stops-here before s (t ∷ ss) passed deeper)
        (further-stops unless (t ∷ ss)
        (All-append IsPassed before (s.path ∷ []) passed (All-cons IsPassed s.path [] are.0.1 (All-nil IsPassed)))
        (All-append (AreDeeper (t ∷ ss)) before (s.path ∷ [])
        (All-weaker (AreDeeper (s ∷ t ∷ ss)) (AreDeeper (t ∷ ss)) (λ q all. All-tail (λ (u : Scope). length u.path < length q) s (t ∷ ss) all) before deeper)
        (All-cons (AreDeeper (t ∷ ss)) s.path [] are.0.0 (All-nil (AreDeeper (t ∷ ss)))))
        are.1)

    -- ---- parts of lists of scopes

    abbrev left : (Key → Option Answer) → List Scope → List Scope
    left there ss = undeclared there n ss

    undeclared-all : (P : Scope → Type 0) (there : Key → Option Answer) (ss : List Scope) → All P ss → All P (left there ss)
    undeclared-all P there [] all = All-nil P
    undeclared-all P there (s ∷ ss) all = by (undeclared-all P there ss (All-tail P s ss all)) (is_some (own_at there n s.path))
      where
        by : All P (left there ss) → (b : Bool) → All P (cond b [] (s ∷ left there ss))
        by rest true = All-nil P
        by rest false = All-cons P s (left there ss) (All-head P s ss all) rest

    undeclared-passed : (there : Key → Option Answer) (ss : List Scope) → ArePassed ss → ArePassed (left there ss)
    undeclared-passed there [] are = tt
    undeclared-passed there (s ∷ ss) are = by (undeclared-passed there ss are.1) (is_some (own_at there n s.path))
      where
        next : (ss : List Scope) → IsPassedTo ss s → IsPassedTo (left there ss) s
        next [] passed = tt
        next (t ∷ ss) passed = on (is_some (own_at there n t.path))
          where
            on : (b : Bool) → IsPassedTo (cond b [] (t ∷ left there ss)) s
            on true = tt
            on false = passed

        by : ArePassed (left there ss) → (b : Bool) → ArePassed (cond b [] (s ∷ left there ss))
        by rest true = tt
        by rest false = ((undeclared-all (λ (t : Scope). length t.path < length s.path) there ss are.0.0, next ss are.0.1), rest)

  -- each of these is deeper than those outward of it, and is passed or stands in a module
  abbrev IsNoModule : Scope → Type 0
  IsNoModule s = s.kind ≢ Module

  abbrev IsPassedBefore : List Scope → Scope → Type 0
  IsPassedBefore [] s = Unit {0}
  IsPassedBefore (t ∷ outer) s = (t.kind ≡ Module) ⊎ IsPassed s.path

  abbrev pub AreOutward : List Scope → Type 0
  AreOutward [] = Unit {0}
  AreOutward (s ∷ outer) = (AreShorter (length s.path) outer × IsPassedBefore outer s) × AreOutward outer

  no-modules : (ss : List Scope) → All IsNoModule ss → AreOutward ss → ArePassed ss
  no-modules [] all are = tt
  no-modules (s ∷ []) all are = ((are.0.0, tt), tt)
  no-modules (s ∷ t ∷ ss) all are = ((are.0.0, by are.0.1), no-modules (t ∷ ss) (All-tail IsNoModule s (t ∷ ss) all) are.1)
    where
      other : IsNoModule t
      other = All-head IsNoModule t ss (All-tail IsNoModule s (t ∷ ss) all)

      by : (t.kind ≡ Module) ⊎ IsPassed s.path → IsPassed s.path
      by (inl is) = absurd (other is)
      by (inr passed) = passed

  drop-outward : (i : ℕ) (ss : List Scope) → AreOutward ss → AreOutward (drop i ss)
  drop-outward zero ss are = are
  drop-outward (suc i) [] are = tt
  drop-outward (suc i) (s ∷ ss) are = drop-outward i ss are.1

  take-all : {X : Type 0} (P : X → Type 0) (i : ℕ) (xs : List X) → All P xs → All P (take i xs)
  take-all P zero xs all = All-nil P
  take-all P (suc i) [] all = All-nil P
  take-all P (suc i) (x ∷ xs) all = All-cons P x (take i xs) (All-head P x xs all) (take-all P i xs (All-tail P x xs all))

  take-outward : (i : ℕ) (ss : List Scope) → AreOutward ss → AreOutward (take i ss)
  take-outward zero ss are = tt
  take-outward (suc i) [] are = tt
  take-outward (suc i) (s ∷ ss) are = ((take-all (λ (t : Scope). length t.path < length s.path) i ss are.0.0, by i ss are.0.1), take-outward i ss are.1)
    where
      by : (i : ℕ) (ss : List Scope) → IsPassedBefore ss s → IsPassedBefore (take i ss) s
      by zero ss before = tt
      by (suc i) [] before = tt
      by (suc i) (t ∷ ss) before = before

  -- ---- how far a use goes

  before-modules : (ss : List Scope) → All IsNoModule (take (before_module ss) ss)
  before-modules [] = All-nil IsNoModule
  before-modules (s ∷ ss) = by (before-modules ss) (kind_eq s.kind Module) refl
    where
      by : All IsNoModule (take (before_module ss) ss) → (b : Bool) → kind_eq s.kind Module ≡ b → All IsNoModule (take (cond b 0 (suc (before_module ss))) (s ∷ ss))
      by rest true is = All-nil IsNoModule
      by rest false is = All-cons IsNoModule s (take (before_module ss) ss) (λ same. let never : true ≡ false = sym (ap (λ k. kind_eq k Module) same) ∙ is in cc) rest

  drop-taken : (i k m : ℕ) → i + k ≡ m → (ss : List Scope) → All IsNoModule (take m ss) → All IsNoModule (take k (drop i ss))
  drop-taken zero k m is ss all = subst (λ j. All IsNoModule (take j ss)) (let same : m ≡ k = omega (arith, is) in same) all
  drop-taken (suc i) k zero is ss all = absurd (let none : ⊥ = omega (arith, is) in none)
  drop-taken (suc i) k (suc m) is [] all = take-all IsNoModule k [] (All-nil IsNoModule)
  drop-taken (suc i) k (suc m) is (s ∷ ss) all = drop-taken i k m (omega (arith, is)) ss (All-tail IsNoModule s (take m ss) all)

  none-taken : (i : ℕ) (ss : List Scope) (k : ℕ) → k ≡ 0 → All IsNoModule (take k (drop i ss))
  none-taken i ss k is = subst (λ k. All IsNoModule (take k (drop i ss))) (sym is) (All-nil IsNoModule)

  -- behind the scope that decides all are no modules
  extent-past : (inside : ℕ) (ss : List Scope) → All IsNoModule (take (extent ss - suc inside) (drop (min (suc inside) (extent ss)) ss))
  extent-past inside [] = none-taken (min (suc inside) 0) [] (0 - suc inside) (omega arith)
  extent-past inside (s ∷ ss) = by (kind_eq s.kind Module)
    where
      by : (b : Bool) → All IsNoModule (take (suc (cond b 0 (before_module ss)) - suc inside) (drop (min (suc inside) (suc (cond b 0 (before_module ss)))) (s ∷ ss)))
      by true = none-taken (min (suc inside) 1) (s ∷ ss) (1 - suc inside) (omega arith)
      by false = on (before_module ss) (before-modules ss)
        where
          on : (m : ℕ) → All IsNoModule (take m ss) → All IsNoModule (take (suc m - suc inside) (drop (min (suc inside) (suc m)) (s ∷ ss)))
          on m all = split (inside_or m inside)
            where
              split : (inside ≤ m) ⊎ (m ≤ inside) → All IsNoModule (take (suc m - suc inside) (drop (min (suc inside) (suc m)) (s ∷ ss)))
              split (inr past) = none-taken (min (suc inside) (suc m)) (s ∷ ss) (suc m - suc inside) (omega (arith, past))
              split (inl within) =
                  let first : min (suc inside) (suc m) ≡ suc inside = omega (arith, within) in
                  let rest : suc m - suc inside ≡ m - inside = omega (arith, within) in
                  let whole : inside + (m - inside) ≡ m = omega (arith, within) in
                  subst (λ i. All IsNoModule (take (suc m - suc inside) (drop i (s ∷ ss)))) (sym first)
                  (subst (λ k. All IsNoModule (take k (drop inside ss))) (sym rest)
                  (drop-taken inside (m - inside) m whole ss all))

  reach-past : (b : Bool) (inside : ℕ) (ss : List Scope) → let r = reach_by b inside (extent ss) in All IsNoModule (take r.further (drop r.certain ss))
  reach-past true inside ss = All-nil IsNoModule
  reach-past false inside ss = extent-past inside ss

  -- the uses of a name that goes so far
  pub reached-stops : (n : List ℕ) (inside : ℕ) (e : Entity) (cursor : List Scope) (own : List Addition) → AreOutward cursor → All (AreStops bank) (uses_of n (reach cursor inside e) cursor own)
  reached-stops n inside e cursor own are =
      let r : Reach = reach cursor inside e in
      let ss : List Scope = take r.further (drop r.certain cursor) in
      let passed : ArePassed ss = no-modules ss (reach-past (declares_at cursor inside e) inside cursor) (take-outward r.further (drop r.certain cursor) (drop-outward r.certain cursor are)) in
      All-append (AreStops bank) (map (λ s. Uses n s.path s.body) (take r.certain cursor)) (further_uses n [] (undeclared (λ k. over own k None) n ss))
      (certain (take r.certain cursor))
      (further-stops n [] (undeclared (λ k. over own k None) n ss) (All-nil IsPassed) (All-nil (AreDeeper (undeclared (λ k. over own k None) n ss))) (undeclared-passed n (λ k. over own k None) ss passed))
    where
      certain : (ss : List Scope) → All (AreStops bank) (map (λ s. Uses n s.path s.body) ss)
      certain [] = All-nil (AreStops bank)
      certain (s ∷ ss) = All-cons (AreStops bank) (Uses n s.path s.body) (map (λ s. Uses n s.path s.body) ss) tt (certain ss)

  -- a use that goes nowhere
  pub nowhere-stops : (n : List ℕ) (cursor : List Scope) (own : List Addition) → All (AreStops bank) (uses_of n (record { certain = 0; further = 0 }) cursor own)
  nowhere-stops n cursor own = All-nil (AreStops bank)

  -- ---- more additions

  pub stops-with : (own : List Addition) (a : Addition) → All (AreStops bank) own → AreStops bank a → All (AreStops bank) (with_addition own a)
  stops-with [] a all one = All-cons (AreStops bank) a [] one all
  stops-with (b ∷ own) a all one = by (stops-with own a (All-tail (AreStops bank) b own all) one) (key_eq (key_of a) (key_of b))
    where
      by : All (AreStops bank) (with_addition own a) → (t : Bool) → All (AreStops bank) (cond t (a ∷ own) (b ∷ with_addition own a))
      by rest true = All-cons (AreStops bank) a own one (All-tail (AreStops bank) b own all)
      by rest false = All-cons (AreStops bank) b (with_addition own a) (All-head (AreStops bank) b own all) rest

  pub stops-fold : (own more : List Addition) → All (AreStops bank) own → All (AreStops bank) more → All (AreStops bank) (fold with_addition own more)
  stops-fold own [] all others = all
  stops-fold own (a ∷ more) all others =
      stops-fold (with_addition own a) more (stops-with own a all (All-head (AreStops bank) a more others)) (All-tail (AreStops bank) a more others)

-- ---- the scopes in which a name is used

module _ (facts : List UnitFacts) (k : IsSettled (world facts)) (stacked : AreStacked (scopes_in (answers facts Cursor))) (turns : ℕ) (enough : turns_for facts ≤ turns) where
  abbrev around : List Scope
  around = scopes_in (answers facts Cursor)

  -- those around the unit
  outer-outward : (ss : List Scope) → AreUnder ss → AreStacked ss → ((s : Scope) → IsIn s ss → IsIn s around) → AreOutward (answers facts) ss
  outer-outward [] under are among = tt
  outer-outward (s ∷ outer) under are among = (
    (under-shorter s outer under, by outer are.0.1),
    outer-outward outer under.1 are.1 (λ t i. among t (inr i)),
  )
    where
      by : (outer : List Scope) → StandsIn outer s → IsPassedBefore (answers facts) outer s
      by [] stands = tt
      by (t ∷ outer) (inr is) = inl is
      by (t ∷ outer) (inl less) =
          inr (inl (nameless-path s.path less, Contains-IsIn s.path (map (λ (s : Scope). s.path) around) (IsIn-map (λ (s : Scope). s.path) s around (among s (inl refl)))))

  around-under : AreUnder around
  around-under = under-opened (names_in (answers facts)) around (world facts).inside k.opened

  cursor-under : (own : List Addition) (level : ℕ) (cursor : List Scope) → IsCursor facts k turns enough own level cursor → AreUnder cursor
  cursor-under own zero cursor is = subst AreUnder (sym is) around-under
  cursor-under own (suc n) [] is = absurd is
  cursor-under own (suc n) (t ∷ cursor) is = (is.1.1.0, cursor-under own n cursor is.1.1.1)

  -- and those that have begun in it
  pub cursor-outward : (own : List Addition) → IsGrown (names_in (answers facts)) around own → (level : ℕ) (cursor : List Scope) → IsCursor facts k turns enough own level cursor → AreOutward (answers facts) cursor
  cursor-outward own grown zero cursor is = subst (AreOutward (answers facts)) (sym is) (outer-outward around around-under stacked (λ s i. i))
  cursor-outward own grown (suc n) [] is = absurd is
  cursor-outward own grown (suc n) (t ∷ cursor) is = (
    (under-shorter t cursor (cursor-under own (suc n) (t ∷ cursor) is), by cursor),
    cursor-outward own grown n cursor is.1.1.1,
  )
    where
      begun : IsBegun facts k turns enough own t.path
      begun = is.1.0

      by : (outer : List Scope) → IsPassedBefore (answers facts) outer t
      by [] = tt
      by (u ∷ outer) =
          inr (inr (named-path t.path (begun-named facts k turns enough own grown t.path begun), begun-none facts k turns enough own grown t.path begun))
