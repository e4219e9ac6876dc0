-- A walk that enters each place once finds all that is reached, nothing else, and each once.
use Rattle.std.proofs.Common.{◌≡◌, ◌⊎◌, ℕ, zero, suc, ◌+◌, ◌≤◌, Bool, true, false, cond, List, [], ◌∷◌, ◌++◌, length, Option, Some, None, refl, ◌∙◌, sym, inl, inr, arith, length-append, subst, append-nil, append_assoc}
use Rattle.std.specs.Prelude.{option_to_list}
use Rattle.std.proofs.lemmas.Bool.{false≢true}
use Rattle.idl_env.proofs.Membership.{IsIn, IsIn-left, IsIn-right, IsIn-split, IsIn-option, IsIn-one, Distinct, Distinct-push, Distinct-apart, length-Distinct}

-- what is there at a place, or, where there is nothing, is reached from the places that it leads to
pub data Reached {P E : Type 0} (own : P → Option E) (next : P → List P) : List P → E → Type 0 where
  Here : {starts : List P} {e : E} (b : P) → IsIn b starts → own b ≡ Some e → Reached own next starts e
  On : {starts : List P} {e : E} (b : P) → IsIn b starts → own b ≡ None → Reached own next (next b) e → Reached own next starts e

-- where a walk goes on from a place, by what is there
abbrev pub onward : {P E : Type 0} → (P → List P) → P → Option E → List P
onward next b None = next b
onward next b (Some e) = []

-- those of the places that are not in the queue, each once
abbrev pub added : {P : Type 0} → (P → List P → Bool) → List P → List P → List P
added among queue [] = []
added among queue (p ∷ places) = cond (among p queue) (added among queue places) (p ∷ added among (queue ++ p ∷ []) places)

-- what a walk finds
abbrev pub visited : {P E : Type 0} → (P → List P → Bool) → (P → Option E) → (P → List P) → ℕ → List P → List P → List E → List E
visited among own next zero entered left found = found
visited among own next (suc turns) entered [] found = found
visited among own next (suc turns) entered (b ∷ left) found =
    visited among own next turns (entered ++ b ∷ []) (left ++ added among (entered ++ b ∷ left) (onward next b (own b))) (found ++ option_to_list (own b))

module _ {P E : Type 0} (among : P → List P → Bool) (decides : (b : P) (xs : List P) → (among b xs ≡ true → IsIn b xs) × (IsIn b xs → among b xs ≡ true)) (own : P → Option E) (next : P → List P) where
  -- ---- places that are added

  pub added-within : (queue places : List P) (c : P) → IsIn c (added among queue places) → IsIn c places
  added-within queue [] c i = absurd i
  added-within queue (p ∷ places) c i = by_test (among p queue) (λ j. added-within queue places c j) (λ j. added-within (queue ++ p ∷ []) places c j) i
    where
      by_test : (t : Bool) → (IsIn c (added among queue places) → IsIn c places) → (IsIn c (added among (queue ++ p ∷ []) places) → IsIn c places) → IsIn c (cond t (added among queue places) (p ∷ added among (queue ++ p ∷ []) places)) → IsIn c (p ∷ places)
      by_test true old new j = inr (old j)
      by_test false old new (inl e) = inl e
      by_test false old new (inr j) = inr (new j)

  pub added-whole : (queue places : List P) (c : P) → IsIn c places → IsIn c queue ⊎ IsIn c (added among queue places)
  added-whole queue [] c i = absurd i
  added-whole queue (p ∷ places) c i = by_test (among p queue) refl (λ j. added-whole queue places c j) (λ j. added-whole (queue ++ p ∷ []) places c j) i
    where
      by_test : (t : Bool) → among p queue ≡ t → (IsIn c places → IsIn c queue ⊎ IsIn c (added among queue places)) → (IsIn c places → IsIn c (queue ++ p ∷ []) ⊎ IsIn c (added among (queue ++ p ∷ []) places))
          → IsIn c (p ∷ places) → IsIn c queue ⊎ IsIn c (cond t (added among queue places) (p ∷ added among (queue ++ p ∷ []) places))
      by_test true h old new (inl e) = inl (let Q : P → Type 0 = λ x. IsIn x queue in subst Q e ((decides p queue).0 h))
      by_test true h old new (inr j) = old j
      by_test false h old new (inl e) = inr (inl e)
      by_test false h old new (inr j) = elim (new j) as (λ _. IsIn c queue ⊎ IsIn c (p ∷ added among (queue ++ p ∷ []) places)) [
        | inl q ↦ elim (IsIn-split c queue (p ∷ []) q) as (λ _. IsIn c queue ⊎ IsIn c (p ∷ added among (queue ++ p ∷ []) places)) [ inl r ↦ inl r | inr r ↦ inr (inl (IsIn-one p c r)) ]
        | inr q ↦ inr (inr q)
      ]

  not_in : (p : P) (queue : List P) → among p queue ≡ false → IsIn p queue → ⊥
  not_in p queue h i = false≢true (sym h ∙ (decides p queue).1 i)

  pub added-Distinct : (queue places : List P) → Distinct queue → Distinct (queue ++ added among queue places)
  added-Distinct queue [] d = simp append-nil d
  added-Distinct queue (p ∷ places) d = by_test (among p queue) refl (added-Distinct queue places d) (λ e. added-Distinct (queue ++ p ∷ []) places e)
    where
      by_test : (t : Bool) → among p queue ≡ t → Distinct (queue ++ added among queue places) → (Distinct (queue ++ p ∷ []) → Distinct ((queue ++ p ∷ []) ++ added among (queue ++ p ∷ []) places)) → Distinct (queue ++ cond t (added among queue places) (p ∷ added among (queue ++ p ∷ []) places))
      by_test true h old new = old
      by_test false h old new = let Q : List P → Type 0 = Distinct in subst Q (append_assoc queue (p ∷ []) (added among (queue ++ p ∷ []) places)) (new (Distinct-push p queue (not_in p queue h) d))

  -- ---- nothing else is found

  wider : {xs : List P} {e : E} (ys : List P) → Reached own next xs e → ((b : P) → IsIn b xs → IsIn b ys) → Reached own next ys e
  wider ys (Here b i o) f = Here b (f b i) o
  wider ys (On b i o t) f = On b (f b i) o t

  part : {zs : List P} {e : E} (xs ys : List P) → Reached own next zs e → ((b : P) → IsIn b zs → IsIn b xs ⊎ IsIn b ys) → Reached own next xs e ⊎ Reached own next ys e
  part {e = e} xs ys (Here b i o) f = elim (f b i) as (λ _. Reached own next xs e ⊎ Reached own next ys e) [ inl p ↦ inl (Here b p o) | inr q ↦ inr (Here b q o) ]
  part {e = e} xs ys (On b i o t) f = elim (f b i) as (λ _. Reached own next xs e ⊎ Reached own next ys e) [ inl p ↦ inl (On b p o t) | inr q ↦ inr (On b q o t) ]

  nothing : {xs : List P} {e : E} → Reached own next xs e → xs ≡ [] → ⊥
  nothing (Here b i o) h = rw h at i
  nothing (On b i o t) h = rw h at i

  up : (b : P) (left : List P) (e : E) (there : Option E) → own b ≡ there → Reached own next (onward next b there) e → Reached own next (b ∷ left) e
  up b left e None h t = On b (inl refl) h t
  up b left e (Some x) h t = absurd (nothing t refl)

  -- all that a walk finds was found before, or is reached from what was left
  pub sound : (turns : ℕ) (entered left : List P) (found : List E) (e : E) → IsIn e (visited among own next turns entered left found) → IsIn e found ⊎ Reached own next left e
  sound zero entered left found e h = inl h
  sound (suc turns) entered [] found e h = inl h
  sound (suc turns) entered (b ∷ left) found e h = after_new (sound turns (entered ++ b ∷ []) (left ++ added among (entered ++ b ∷ left) (onward next b (own b))) (found ++ option_to_list (own b)) e h)
    where
      after_new : IsIn e (found ++ option_to_list (own b)) ⊎ Reached own next (left ++ added among (entered ++ b ∷ left) (onward next b (own b))) e → IsIn e found ⊎ Reached own next (b ∷ left) e
      after_new (inl p) = elim (IsIn-split e found (option_to_list (own b)) p) as (λ _. IsIn e found ⊎ Reached own next (b ∷ left) e) [ inl q ↦ inl q | inr q ↦ inr (Here b (inl refl) (IsIn-option e (own b) q)) ]
      after_new (inr t) = elim (part left (added among (entered ++ b ∷ left) (onward next b (own b))) t (λ c i. IsIn-split c left (added among (entered ++ b ∷ left) (onward next b (own b))) i)) as (λ _. IsIn e found ⊎ Reached own next (b ∷ left) e) [
        | inl u ↦ inr (wider (b ∷ left) u (λ _ i. inr i))
        | inr u ↦ inr (up b left e (own b) refl (wider (onward next b (own b)) u (λ c i. added-within (entered ++ b ∷ left) (onward next b (own b)) c i)))
      ]

  -- ---- all is found

  -- each place entered has told what is there, or the places that it leads to are entered or left
  pub Closed : List P → List P → List E → Type 0
  Closed entered left found = (b : P) → IsIn b entered → ((e : E) → own b ≡ Some e → IsIn e found) × (own b ≡ None → (c : P) → IsIn c (next b) → IsIn c entered ⊎ IsIn c left)

  told : (bs entered : List P) (found : List E) (e : E) → Closed entered [] found → Reached own next bs e → ((b : P) → IsIn b bs → IsIn b entered) → IsIn e found
  unfolding Closed
  told bs entered found e closed (Here b i o) within = (closed b (within b i)).0 e o
  told bs entered found e closed (On b i o t) within = told _ entered found e closed t (λ c j. elim ((closed b (within b i)).1 o c j) as (λ _. IsIn c entered) [ inl p ↦ p | inr q ↦ absurd q ])

  moved : (b : P) (left more entered : List P) (d : P) → IsIn d entered ⊎ IsIn d (b ∷ left) → IsIn d (entered ++ b ∷ []) ⊎ IsIn d (left ++ more)
  moved b left more entered d (inl p) = inl (IsIn-left d entered (b ∷ []) p)
  moved b left more entered d (inr (inl e)) = inl (IsIn-right d entered (b ∷ []) (inl e))
  moved b left more entered d (inr (inr q)) = inr (IsIn-left d left more q)

  goes_on : (b : P) (there : Option E) → there ≡ None → (c : P) → IsIn c (next b) → IsIn c (onward next b there)
  goes_on b None h c i = i
  goes_on b (Some e) h c i = absurd (let k : Some e ≡ None = h in cc)

  within_next : (b : P) (there : Option E) (c : P) → IsIn c (onward next b there) → IsIn c (next b)
  within_next b None c i = i
  within_next b (Some e) c i = absurd i

  module _ (b : P) (entered left : List P) (found : List E) where
    more : List P
    more = added among (entered ++ b ∷ left) (onward next b (own b))

    -- what an entered place tells, after one more is entered
    abbrev Tells : P → Type 0
    Tells x = ((e : E) → own x ≡ Some e → IsIn e (found ++ option_to_list (own b))) × (own x ≡ None → (d : P) → IsIn d (next x) → IsIn d (entered ++ b ∷ []) ⊎ IsIn d (left ++ more))

    placed : (c : P) → IsIn c (entered ++ b ∷ left) ⊎ IsIn c more → IsIn c (entered ++ b ∷ []) ⊎ IsIn c (left ++ more)
    placed c (inl i) = moved b left more entered c (IsIn-split c entered (b ∷ left) i)
    placed c (inr j) = inr (IsIn-right c left more j)

    itself : Tells b
    unfolding more
    itself = (λ e o. IsIn-right e found (option_to_list (own b)) (rw o (inl refl)), λ none d j. placed d (added-whole (entered ++ b ∷ left) (onward next b (own b)) d (goes_on b (own b) none d j)))

    closed_new : Closed entered (b ∷ left) found → Closed (entered ++ b ∷ []) (left ++ more) (found ++ option_to_list (own b))
    unfolding Closed
    closed_new closed c i = elim (IsIn-split c entered (b ∷ []) i) as (λ _. Tells c) [
      | inl p ↦ (λ e o. IsIn-left e found _ ((closed c p).0 e o), λ none d j. moved b left more entered d ((closed c p).1 none d j))
      | inr q ↦ (let Q : P → Type 0 = λ x. Tells x in subst Q (IsIn-one b c q) itself)
    ]

    requeued : (entered ++ b ∷ []) ++ (left ++ more) ≡ (entered ++ b ∷ left) ++ more
    requeued = append_assoc entered (b ∷ []) (left ++ more) ∙ sym (append_assoc entered (b ∷ left) more)

    distinct_new : Distinct (entered ++ b ∷ left) → Distinct ((entered ++ b ∷ []) ++ (left ++ more))
    unfolding more
    distinct_new d = let Q : List P → Type 0 = Distinct in subst Q (sym requeued) (added-Distinct (entered ++ b ∷ left) (onward next b (own b)) d)

    within_new : (places : List P) → ((c d : P) → IsIn c places → IsIn d (next c) → IsIn d places) → ((c : P) → IsIn c (entered ++ b ∷ left) → IsIn c places) → (c : P) → IsIn c ((entered ++ b ∷ []) ++ (left ++ more)) → IsIn c places
    unfolding more
    within_new places inside known c i = elim (IsIn-split c (entered ++ b ∷ left) more (let Q : List P → Type 0 = λ xs. IsIn c xs in subst Q requeued i)) [
      | inl p ↦ known c p
      | inr q ↦ inside b c (known b (IsIn-right b entered (b ∷ left) (inl refl))) (within_next b (own b) c (added-within (entered ++ b ∷ left) (onward next b (own b)) c q))
    ]

    next_turn : (places : List P) (turns : ℕ) → length places ≤ length entered + suc turns → length places ≤ length (entered ++ b ∷ []) + turns
    next_turn places turns h = let l = length-append entered (b ∷ []) in omega (arith, l, h)

  -- what waits once a place is entered: behind what waited, the places to which it leads
  abbrev pub waiting : P → List P → List P → List P
  waiting b entered left = left ++ added among (entered ++ b ∷ left) (onward next b (own b))

  pub waiting-Distinct : (b : P) (entered left : List P) → Distinct (entered ++ b ∷ left) → Distinct ((entered ++ b ∷ []) ++ waiting b entered left)
  unfolding more
  waiting-Distinct b entered left d = distinct_new b entered left [] d

  pub waiting-within : (b : P) (entered left places : List P) → ((c d : P) → IsIn c places → IsIn d (next c) → IsIn d places) → ((c : P) → IsIn c (entered ++ b ∷ left) → IsIn c places)
      → (c : P) → IsIn c ((entered ++ b ∷ []) ++ waiting b entered left) → IsIn c places
  unfolding more
  waiting-within b entered left places inside known c i = within_new b entered left [] places inside known c i

  -- all that is reached is found, where there are as many turns as places
  pub complete : (places : List P) → ((b c : P) → IsIn b places → IsIn c (next b) → IsIn c places) → (turns : ℕ) (entered left : List P) (found : List E)
      → Distinct (entered ++ left) → ((b : P) → IsIn b (entered ++ left) → IsIn b places) → length places ≤ length entered + turns → Closed entered left found
      → (bs : List P) (e : E) → Reached own next bs e → ((b : P) → IsIn b bs → IsIn b entered ⊎ IsIn b left) → IsIn e (visited among own next turns entered left found)
  unfolding more
  complete places inside zero entered [] found d known h closed bs e t within = told bs entered found e closed t (λ b i. elim (within b i) [ inl p ↦ p | inr q ↦ absurd q ])
  complete places inside zero entered (b ∷ left) found d known h closed bs e t within =
      let l = length-append entered (b ∷ left) in
      let k = length-Distinct (entered ++ b ∷ left) places d known in
      absurd (omega (arith, l, k, h))
  complete places inside (suc turns) entered [] found d known h closed bs e t within = told bs entered found e closed t (λ b i. elim (within b i) [ inl p ↦ p | inr q ↦ absurd q ])
  complete places inside (suc turns) entered (b ∷ left) found d known h closed bs e t within =
      complete places inside turns (entered ++ b ∷ []) (left ++ more b entered left found) (found ++ option_to_list (own b))
      (distinct_new b entered left found d) (within_new b entered left found places inside known) (next_turn b entered left found places turns h) (closed_new b entered left found closed)
      bs e t (λ c i. moved b left (more b entered left found) entered c (within c i))

  -- ---- each is found once, where what is there at a place tells the place

  module _ (home : E → P) (at_home : (b : P) (e : E) → own b ≡ Some e → home e ≡ b) where
    pub Comes : List P → List E → Type 0
    Comes entered found = (e : E) → IsIn e found → IsIn (home e) entered

    comes_new : (b : P) (entered : List P) (found : List E) → Comes entered found → Comes (entered ++ b ∷ []) (found ++ option_to_list (own b))
    unfolding Comes
    comes_new b entered found h e i = elim (IsIn-split e found (option_to_list (own b)) i) [
      | inl p ↦ IsIn-left (home e) entered (b ∷ []) (h e p)
      | inr q ↦ IsIn-right (home e) entered (b ∷ []) (inl (sym (at_home b e (IsIn-option e (own b) q))))
    ]

    still : (b : P) (entered : List P) (found : List E) (there : Option E) → own b ≡ there → (IsIn b entered → ⊥) → Comes entered found → Distinct found → Distinct (found ++ option_to_list there)
    unfolding Comes
    still b entered found None o new h d = simp append-nil d
    still b entered found (Some e) o new h d = Distinct-push e found (λ i. new (let Q : P → Type 0 = λ x. IsIn x entered in subst Q (at_home b e o) (h e i))) d

    pub distinct : (turns : ℕ) (entered left : List P) (found : List E) → Distinct (entered ++ left) → Comes entered found → Distinct found → Distinct (visited among own next turns entered left found)
    unfolding more
    distinct zero entered left found q h d = d
    distinct (suc turns) entered [] found q h d = d
    distinct (suc turns) entered (b ∷ left) found q h d =
        distinct turns (entered ++ b ∷ []) (left ++ more b entered left found) (found ++ option_to_list (own b)) (distinct_new b entered left found q) (comes_new b entered found h) (still b entered found (own b) refl (Distinct-apart entered b left q) h d)

  -- ---- from its starts

  -- a walk from its starts finds what is reached from them, no more, and each once
  pub visited-Reached : (places : List P) → ((b c : P) → IsIn b places → IsIn c (next b) → IsIn c places) → (turns : ℕ) (starts : List P) → ((b : P) → IsIn b starts → IsIn b places) → length places ≤ turns → (e : E) →
      (IsIn e (visited among own next turns [] (added among [] starts) []) → Reached own next starts e) × (Reached own next starts e → IsIn e (visited among own next turns [] (added among [] starts) []))
  unfolding Closed
  visited-Reached places inside turns starts known h e = (
    λ i. elim (sound turns [] (added among [] starts) [] e i) [ inl p ↦ absurd p | inr t ↦ wider starts t (λ b j. added-within [] starts b j) ],
    λ t. complete places inside turns [] (added among [] starts) [] (added-Distinct [] starts tt) (λ b i. known b (added-within [] starts b i)) (omega (arith, h)) (λ b i. absurd i) starts e t (λ b i. added-whole [] starts b i),
  )

  pub visited-Distinct : (home : E → P) → ((b : P) (e : E) → own b ≡ Some e → home e ≡ b) → (turns : ℕ) (starts : List P) → Distinct (visited among own next turns [] (added among [] starts) [])
  unfolding Comes
  visited-Distinct home at_home turns starts = distinct home at_home turns [] (added among [] starts) [] (added-Distinct [] starts tt) (λ e i. absurd i) tt
