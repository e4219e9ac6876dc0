-- What is asked behind additions.
use Rattle.std.proofs.Common.{◌≡◌, ◌⊎◌, ℕ, Bool, true, false, cond, ◌&&◌, not, List, [], ◌∷◌, Option, Some, refl, sym, ap, ◌∙◌, subst, inl, inr}
use Rattle.std.specs.Prelude.{All, Contains, filter, is_some}
use Rattle.std.proofs.lemmas.List.Elements.{All-head, All-tail}
use Rattle.idl_env.specs.Facts.{World, addition_at, answer_of, entity_in, is_stopped, key_of, unstopped}
use Rattle.idl_env.specs.SameKey.{same_key}
use Rattle.idl_env.specs.declared.additions.addition.Addition.{Addition}
use Rattle.idl_env.specs.declared.additions.addition.Addition.TheVariants.{Declares, Uses, UsesFurther, Appears, Identifies, TypePrefixes}
use Rattle.idl_env.specs.declared.answering.answer.Answer.{Answer}
use Rattle.idl_env.specs.declared.keys.key.Key.{Key}
use Rattle.idl_env.specs.declared.keys.key.Key.TheVariants.{Declared, Introduced}
use Rattle.idl_env.specs.keys.Key.{key_eq}
use Rattle.idl_memo.specs.Query.{Done, and_then, asked, outcome}
use Rattle.idl_block.specs.facts.Answered.{AreStops, AskedWorld, Asking, IsStop, answered_by, is_other_nameless, one_declares, stopped}
use Rattle.idl_block.proofs.FactLaws.Seen.Sees.{Sees, asks-second, sees-done, sees-then}
use Rattle.idl_block.proofs.FactLaws.StandingLaws.{Stands, stopped-is}

-- a key at which no use stands
abbrev pub IsPlain : Key → Type 0
IsPlain (Introduced n path body) = ⊥
IsPlain key = Unit {0}

-- one more addition at a key, where it may be stopped
pub at-cons : (x : Addition) (rest : List Addition) (k : Key) (b t : Bool) → key_eq k (key_of x) ≡ b → addition_at (cond (not t) (x ∷ rest) rest) k ≡ cond (b && not t) (Some x) (addition_at rest k)
at-cons x rest k true true is = refl
at-cons x rest k false true is = refl
at-cons x rest k b false is = ap (λ c. cond c (Some x) (addition_at rest k)) is ∙ with_true b
  where
    with_true : (b : Bool) → cond b (Some x) (addition_at rest k) ≡ cond (b && true) (Some x) (addition_at rest k)
    with_true true = refl
    with_true false = refl

module _ (bank : Key → Option Answer) (a : AskedWorld) (w : World) (s : Stands bank a w) where
  -- an addition that is not stopped leaves an answer
  abbrev pub adds : List Addition → Key → Bool
  adds additions k = is_some (addition_at (unstopped w.answers additions) k)

  adds-cons : (x : Addition) (additions : List Addition) (k : Key) (b t : Bool) → key_eq k (key_of x) ≡ b → is_stopped w.answers x ≡ t
      → adds (x ∷ additions) k ≡ is_some (cond (b && not t) (Some x) (addition_at (unstopped w.answers additions) k))
  adds-cons x additions k b t is stops =
      ap (λ t. is_some (addition_at (cond (not t) (x ∷ unstopped w.answers additions) (unstopped w.answers additions)) k)) stops
      ∙ ap is_some (at-cons x (unstopped w.answers additions) k b t is)

  -- ---- keys at which no use stands

  -- no addition at such a key is stopped
  plain-goes : (x : Addition) (k : Key) → IsPlain k → key_eq k (key_of x) ≡ true → (is_stopped w.answers x ≡ false) × (stopped a x ≡ Done false)
  plain-goes (UsesFurther n path further) k plain is = absurd (subst IsPlain (same_key k (key_of (UsesFurther n path further)) is) plain)
  plain-goes (Declares e) k plain is = (refl, refl)
  plain-goes (Uses n path body) k plain is = (refl, refl)
  plain-goes (Appears path prefix) k plain is = (refl, refl)
  plain-goes (Identifies path fixed) k plain is = (refl, refl)
  plain-goes (TypePrefixes path text) k plain is = (refl, refl)

  -- there it is the addition that answers, or what was there before
  abbrev pub AtPlain : List Addition → Key → Type 0
  AtPlain additions k =
      ((adds additions k ≡ true) × (asked (answered_by a additions k) bank ≡ []))
      ⊎ ((adds additions k ≡ false) × (answered_by a additions k ≡ a.answers k))

  pub at-plain : (additions : List Addition) (k : Key) → IsPlain k → AtPlain additions k
  at-plain [] k plain = inr (refl, refl)
  at-plain (x ∷ additions) k plain = by (at-plain additions k plain) (key_eq k (key_of x)) refl
    where
      later : Bool → Asking (Option Answer)
      later stops = cond stops (answered_by a additions k) (Done (Some (answer_of x)))

      by : AtPlain additions k → (b : Bool) → key_eq k (key_of x) ≡ b → AtPlain (x ∷ additions) k
      by rest true is =
          let goes = plain-goes x k plain is in
          inl (
            adds-cons x additions k true false is goes.0,
            ap (λ b. asked (cond b (and_then (stopped a x) later) (answered_by a additions k)) bank) is ∙ ap (λ q. asked (and_then q later) bank) goes.1,
          )
      by (inl rest) false is =
          inl (adds-cons x additions k false (is_stopped w.answers x) is refl ∙ rest.0, ap (λ b. asked (cond b (and_then (stopped a x) later) (answered_by a additions k)) bank) is ∙ rest.1)
      by (inr rest) false is =
          inr (adds-cons x additions k false (is_stopped w.answers x) is refl ∙ rest.0, ap (λ b. cond b (and_then (stopped a x) later) (answered_by a additions k)) is ∙ rest.1)

  -- ---- keys of uses

  module _ (n : List ℕ) (path : List (List ℕ)) (body : ℕ) (seen : List Key) (there : Sees bank seen (a.answers (Declared n path)))
      (inner : (q : List (List ℕ)) → IsStop w.answers n path q → is_other_nameless path q ≡ true → Sees bank seen (a.declares n q)) where
    abbrev used : Key
    used = Introduced n path body

    -- whether one of these declares the name
    others-see : (unless : List (List (List ℕ))) → All (IsStop w.answers n path) unless → Sees bank seen (one_declares a n (filter (is_other_nameless path) unless))
    others-see [] all = sees-done bank {A = Bool} seen false
    others-see (q ∷ unless) all = by (others-see unless (All-tail (IsStop w.answers n path) q unless all)) (is_other_nameless path q) refl
      where
        others : List (List (List ℕ))
        others = filter (is_other_nameless path) unless

        later : Sees bank seen (one_declares a n others) → (b : Bool) → Sees bank seen (cond b (Done true) (one_declares a n others))
        later rest true = sees-done bank {A = Bool} seen true
        later rest false = rest

        by : Sees bank seen (one_declares a n others) → (b : Bool) → is_other_nameless path q ≡ b → Sees bank seen (one_declares a n (cond b (q ∷ others) others))
        by rest true other =
            sees-then bank seen (a.declares n q) (λ there. cond there (Done true) (one_declares a n others)) (outcome (a.declares n q) bank) refl
            (inner q (All-head (IsStop w.answers n path) q unless all) other) (later rest (outcome (a.declares n q) bank))
        by rest false other = rest

    -- whether it is stopped is told by what the scope declares, and by nameless ones
    further-sees : (unless : List (List (List ℕ))) → All (IsStop w.answers n path) unless
        → Sees bank seen (and_then (a.answers (Declared n path)) (λ answer. cond (is_some (entity_in answer)) (Done true) (one_declares a n (filter (is_other_nameless path) unless))))
    further-sees unless all =
        sees-then bank seen (a.answers (Declared n path)) (λ answer. cond (is_some (entity_in answer)) (Done true) (one_declares a n (filter (is_other_nameless path) unless)))
        (outcome (a.answers (Declared n path)) bank) refl there (by (is_some (entity_in (outcome (a.answers (Declared n path)) bank))))
      where
        by : (b : Bool) → Sees bank seen (cond b (Done true) (one_declares a n (filter (is_other_nameless path) unless)))
        by true = sees-done bank {A = Bool} seen true
        by false = others-see unless all

    stop-sees : (x : Addition) → AreStops w.answers x → key_eq used (key_of x) ≡ true → Sees bank seen (stopped a x)
    stop-sees (UsesFurther m q further) stops is =
        let same : used ≡ Introduced m q further.body = same_key used (key_of (UsesFurther m q further)) is in
        let name : n ≡ m = cc in
        let scope : path ≡ q = cc in
        let all : All (IsStop w.answers n path) further.unless = subst (λ m. All (IsStop w.answers m path) further.unless) (sym name) (subst (λ p. All (IsStop w.answers m p) further.unless) (sym scope) stops.1) in
        subst
        (λ m. Sees bank seen (and_then (a.answers (Declared m q)) (λ answer. cond (is_some (entity_in answer)) (Done true) (one_declares a m (filter (is_other_nameless q) further.unless)))))
        name
        (subst
        (λ q. Sees bank seen (and_then (a.answers (Declared n q)) (λ answer. cond (is_some (entity_in answer)) (Done true) (one_declares a n (filter (is_other_nameless q) further.unless)))))
        scope (further-sees further.unless all))
    stop-sees (Declares e) stops is = sees-done bank {A = Bool} seen false
    stop-sees (Uses m q b) stops is = sees-done bank {A = Bool} seen false
    stop-sees (Appears q prefix) stops is = sees-done bank {A = Bool} seen false
    stop-sees (Identifies q identity) stops is = sees-done bank {A = Bool} seen false
    stop-sees (TypePrefixes q text) stops is = sees-done bank {A = Bool} seen false

    one-sees : (x : Addition) (additions : List Addition) → AreStops w.answers x → (b t : Bool) → key_eq used (key_of x) ≡ b → is_stopped w.answers x ≡ t
        → ((b && not t) ≡ false → Sees bank seen (answered_by a additions used)) → Sees bank seen (answered_by a (x ∷ additions) used)
    one-sees x additions stops false t is told rest =
        subst (λ b. Sees bank seen (cond b (and_then (stopped a x) (λ stopped. cond stopped (answered_by a additions used) (Done (Some (answer_of x))))) (answered_by a additions used))) (sym is) (rest refl)
    one-sees x additions stops true t is told rest =
        subst (λ b. Sees bank seen (cond b (and_then (stopped a x) later) (answered_by a additions used))) (sym is)
        (sees-then bank seen (stopped a x) later t (stopped-is bank a w s x stops ∙ told) (stop-sees x stops is) (by t rest))
      where
        later : Bool → Asking (Option Answer)
        later stops = cond stops (answered_by a additions used) (Done (Some (answer_of x)))

        by : (t : Bool) → ((true && not t) ≡ false → Sees bank seen (answered_by a additions used)) → Sees bank seen (later t)
        by true rest = rest refl
        by false rest = sees-done bank {A = Option Answer} seen (Some (answer_of x))

    -- a use is answered by that, and by what was there before
    pub used-sees : (additions : List Addition) → All (AreStops w.answers) additions → Sees bank seen (a.answers used) → Sees bank seen (answered_by a additions used)
    used-sees [] stops before = before
    used-sees (x ∷ additions) stops before =
        let rest = used-sees additions (All-tail (AreStops w.answers) x additions stops) before in
        one-sees x additions (All-head (AreStops w.answers) x additions stops) (key_eq used (key_of x)) (is_stopped w.answers x) refl refl (λ isnt. rest)

    -- by that alone where an addition leaves an answer
    pub added-sees : (additions : List Addition) → All (AreStops w.answers) additions → adds additions used ≡ true → Sees bank seen (answered_by a additions used)
    added-sees [] stops so = cc
    added-sees (x ∷ additions) stops so =
        let b = key_eq used (key_of x) in
        let t = is_stopped w.answers x in
        one-sees x additions (All-head (AreStops w.answers) x additions stops) b t refl refl
        (λ isnt. added-sees additions (All-tail (AreStops w.answers) x additions stops)
        (sym (ap (λ c. is_some (cond c (Some x) (addition_at (unstopped w.answers additions) used))) isnt) ∙ sym (adds-cons x additions used b t refl refl) ∙ so))

  -- where none does, the key itself is asked if it was before
  pub used-asks : (n : List ℕ) (path : List (List ℕ)) (body : ℕ) (additions : List Addition) → All (AreStops w.answers) additions → adds additions (Introduced n path body) ≡ false
      → Contains (asked (a.answers (Introduced n path body)) bank) (Introduced n path body) → Contains (asked (answered_by a additions (Introduced n path body)) bank) (Introduced n path body)
  used-asks n path body [] stops isnt before = before
  used-asks n path body (x ∷ additions) stops isnt before =
      by (used-asks n path body additions (All-tail (AreStops w.answers) x additions stops)) (key_eq k (key_of x)) (is_stopped w.answers x) refl refl
    where
      k : Key
      k = Introduced n path body

      later : Bool → Asking (Option Answer)
      later stops = cond stops (answered_by a additions k) (Done (Some (answer_of x)))

      by : (adds additions k ≡ false → Contains (asked (a.answers k) bank) k → Contains (asked (answered_by a additions k) bank) k)
          → (b t : Bool) → key_eq k (key_of x) ≡ b → is_stopped w.answers x ≡ t → Contains (asked (answered_by a (x ∷ additions) k) bank) k
      by rest false t is told =
          subst (λ b. Contains (asked (cond b (and_then (stopped a x) later) (answered_by a additions k)) bank) k) (sym is)
          (rest (sym (adds-cons x additions k false t is told) ∙ isnt) before)
      by rest true true is told =
          subst (λ b. Contains (asked (cond b (and_then (stopped a x) later) (answered_by a additions k)) bank) k) (sym is)
          (asks-second bank (stopped a x) later true k (stopped-is bank a w s x (All-head (AreStops w.answers) x additions stops) ∙ told)
          (rest (sym (adds-cons x additions k true true is told) ∙ isnt) before))
      by rest true false is told = let never : true ≡ false = sym (adds-cons x additions k true false is told) ∙ isnt in cc
