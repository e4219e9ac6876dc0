-- What holds of a reader, and of readers made of readers.
use Rattle.std.proofs.Common.{◌≡◌, ℕ, zero, suc, ◌+◌, ◌<◌, ◌≤◌, Bool, true, false, cond, List, [], ◌∷◌, ◌++◌, length, Option, Some, None, Result, Ok, Err, refl, sym, ap, subst, ◌∙◌, append_assoc, arith, ◌⊎◌, inl, inr}
use Rattle.std.proofs.lemmas.List.{length-append}
use Rattle.idl_tree.specs.Lexeme.{Lexeme}
use Rattle.idl_tree.specs.reading.Reading.{Reader, ◌>>=◌, first, expect}

-- ---- results

abbrev pub ok : {A : Type 0} → A → Result A ℕ
ok x = Ok x

abbrev pub err : {A : Type 0} → ℕ → Result A ℕ
err k = Err k

pub ok_is : {A : Type 0} (x y : A) → ok x ≡ Ok y → x ≡ y
ok_is x y e = cc

pub ok_err : {A : Type 0} (x : A) (k : ℕ) → ok x ≡ Err k → ⊥
ok_err x k e = cc

pub err_is : {A : Type 0} (d k : ℕ) → err {A = A} d ≡ Err k → d ≡ k
err_is d k e = cc

-- the value of a step that did not fail
pub bind_ok : {A B : Type 0} (r : Result A ℕ) (f : A → Result B ℕ) (y : B) → (r >>= f) ≡ Ok y → (x : A) × (r ≡ Ok x) × (f x ≡ Ok y)
bind_ok (Ok x) f y e = (x, refl, e)
bind_ok (Err d) f y e = absurd cc

-- which step failed
pub data Failed {A B : Type 0} (r : Result A ℕ) (f : A → Result B ℕ) (k : ℕ) : Type 0 where
  in_first : r ≡ Err k → Failed r f k
  in_second : (x : A) → r ≡ Ok x → f x ≡ Err k → Failed r f k

pub bind_err : {A B : Type 0} (r : Result A ℕ) (f : A → Result B ℕ) (k : ℕ) → (r >>= f) ≡ Err k → Failed r f k
bind_err (Ok x) f k e = in_second x refl e
bind_err {B} (Err d) f k e = in_first (ap err (err_is {A = B} d k e))

-- which way a test went
pub chosen : {A : Type 0} (b : Bool) (x y z : A) → cond b x y ≡ z → ((b ≡ true) × (x ≡ z)) ⊎ ((b ≡ false) × (y ≡ z))
chosen true x y z e = inl (refl, e)
chosen false x y z e = inr (refl, e)

-- ---- tokens

pub first-append : (front rest other : List Lexeme) → first other ≡ first rest → first (front ++ other) ≡ first (front ++ rest)
first-append [] rest other h = h
first-append (t ∷ front) rest other h = refl

-- the fuel n, at most N, is more than the tokens and d
pub record Room (d N n : ℕ) (ts : List Lexeme) : Type 0 where
  pub long : d + length ts < n
  pub low : n ≤ N

pub room_rest : (d N n : ℕ) (front rest : List Lexeme) → Room d N n (front ++ rest) → Room d N n rest
room_rest d N n front rest h = record { long = omega (arith, h.long, length-append front rest); low = h.low }

-- the room behind one token
pub room_behind : (d N n : ℕ) (t : Lexeme) (ts : List Lexeme) → Room d N n (t ∷ ts) → Room (suc d) N n ts
room_behind d N n t ts h = record { long = omega (arith, h.long); low = h.low }

-- ---- laws

-- what was read: whatever follows the same next token, the same is read
pub record Read (d N : ℕ) {B C : Type 0} (value : B → C) (spell : B → List Lexeme) (r : ℕ → Reader C) (ts : List Lexeme) (c : C) (rest : List Lexeme) : Type 0 where
  pub tree : B
  pub is : value tree ≡ c
  pub parts : ts ≡ spell tree ++ rest
  pub local : (m : ℕ) (other : List Lexeme) → Room d N m (spell tree ++ other) → first other ≡ first rest → r m (spell tree ++ other) ≡ Ok (c, other)

-- where reading failed: a tree begins with what stands before, and whatever follows the same token, reading fails there
pub record Fault (d N : ℕ) {B C : Type 0} (spell : B → List Lexeme) (r : ℕ → Reader C) (ts : List Lexeme) (k : ℕ) : Type 0 where
  pub front : List Lexeme
  pub rest : List Lexeme
  pub parts : ts ≡ front ++ rest
  pub left : length rest ≡ k
  pub local : (m : ℕ) (other : List Lexeme) → Room d N m (front ++ other) → first other ≡ first rest → r m (front ++ other) ≡ Err (length other)
  pub tree : B
  pub more : List Lexeme
  pub alive : spell tree ≡ front ++ more

-- Each tree is value b for the parts b that are read, and their spelling is spell b.
pub record Laws (d N : ℕ) {B C : Type 0} (value : B → C) (spell : B → List Lexeme) (r : ℕ → Reader C) : Type 0 where
  pub example : B
  pub sound : (n : ℕ) (ts : List Lexeme) (c : C) (rest : List Lexeme) → Room d N n ts → r n ts ≡ Ok (c, rest) → Read d N value spell r ts c rest
  pub fault : (n : ℕ) (ts : List Lexeme) (k : ℕ) → Room d N n ts → r n ts ≡ Err k → Fault d N spell r ts k

abbrev pub same : {A : Type 0} → A → A
same x = x

-- ---- the readers that are made of readers

abbrev pub either : {A B C : Type 0} → (A → C) → (B → C) → A ⊎ B → C
either f g (inl a) = f a
either f g (inr b) = g b

-- both sides are spelled so
pub either_spells : {A B C : Type 0} (spell : C → List Lexeme) (v1 : A → C) (s1 : A → List Lexeme) (v2 : B → C) (s2 : B → List Lexeme) → ((a : A) → spell (v1 a) ≡ s1 a) → ((b : B) → spell (v2 b) ≡ s2 b) → (x : A ⊎ B) → spell (either v1 v2 x) ≡ either s1 s2 x
either_spells spell v1 s1 v2 s2 h1 h2 (inl a) = h1 a
either_spells spell v1 s1 v2 s2 h1 h2 (inr b) = h2 b

abbrev pub next_at : {A C : Type 0} → (ℕ → Reader A) → (A → ℕ → Reader C) → ℕ → Reader C
next_at r1 r2 n ts = r1 n ts >>= λ x. r2 x.0 n x.1

abbrev pub mapped_at : {A C : Type 0} → (A → C) → (ℕ → Reader A) → ℕ → Reader C
mapped_at f r1 n ts = r1 n ts >>= λ x. Ok (f x.0, x.1)

abbrev pub behind_at : {C : Type 0} → (Option Lexeme → Bool) → (ℕ → Reader C) → ℕ → Reader C
behind_at p r n ts = expect p ts >>= λ rest. r n rest

abbrev pub ends_at : {C : Type 0} → C → ℕ → Reader C
ends_at c n ts = Ok (c, ts)

-- ---- one reader after another
module _ (d N : ℕ) {E A B C : Type 0} (value1 : E → A) (spell1 : E → List Lexeme) (r1 : ℕ → Reader A) (value2 : A → B → C) (spell2 : B → List Lexeme) (r2 : A → ℕ → Reader C) where
  abbrev pub then_value : E × B → C
  then_value p = value2 (value1 p.0) p.1

  abbrev pub then_spell : E × B → List Lexeme
  then_spell p = spell1 p.0 ++ spell2 p.1

  abbrev pub then_at : ℕ → Reader C
  then_at n ts = r1 n ts >>= λ x. r2 x.0 n x.1

  pub follow_laws : Laws d N value1 spell1 r1 → ((a : A) → Laws d N (value2 a) spell2 (r2 a)) → Laws d N then_value then_spell then_at
  follow_laws one two = record {
    example = (one.example, (two (value1 one.example)).example);
    sound = λ n ts c rest room e. sound n ts c rest room (bind_ok (r1 n ts) (λ x. r2 x.0 n x.1) (c, rest) e);
    fault = λ n ts k room e. fault n ts k room (bind_err (r1 n ts) (λ x. r2 x.0 n x.1) k e);
  }
    where
      -- the first part is read again, and the second goes on
      again : (m : ℕ) (a : E) (x : A × List Lexeme) (more : List Lexeme) (o : Result (C × List Lexeme) ℕ) → r1 m (spell1 a ++ more) ≡ Ok (x.0, more) → r2 x.0 m more ≡ o → then_at m (spell1 a ++ more) ≡ o
      again m a x more o one-is two-is = ap (λ (r : Result (A × List Lexeme) ℕ). r >>= λ x. r2 x.0 m x.1) one-is ∙ two-is

      sound : (n : ℕ) (ts : List Lexeme) (c : C) (rest : List Lexeme) → Room d N n ts → (x : A × List Lexeme) × (r1 n ts ≡ Ok x) × (r2 x.0 n x.1 ≡ Ok (c, rest)) → Read d N then_value then_spell then_at ts c rest
      sound n ts c rest room b =
          let p = one.sound n ts b.0.0 b.0.1 room b.1 in
          let a-is : value1 p.tree ≡ b.0.0 = p.is in
          let room2 = room_rest d N n (spell1 p.tree) b.0.1 (subst (λ (w : List Lexeme). Room d N n w) p.parts room) in
          let q = (two b.0.0).sound n b.0.1 c rest room2 b.2 in
          record {
            tree = (p.tree, q.tree);
            is = ap (λ (a : A). value2 a q.tree) a-is ∙ q.is;
            parts = p.parts ∙ ap (λ (w : List Lexeme). spell1 p.tree ++ w) q.parts ∙ sym (append_assoc (spell1 p.tree) (spell2 q.tree) rest);
            local = λ m other room3 same_first.
                let regroup = append_assoc (spell1 p.tree) (spell2 q.tree) other in
                let room1 = subst (λ (w : List Lexeme). Room d N m w) regroup room3 in
                let first_is = first-append (spell2 q.tree) rest other same_first ∙ ap first (sym q.parts) in
                ap (then_at m) regroup ∙ again m p.tree b.0 (spell2 q.tree ++ other) (Ok (c, other)) (p.local m (spell2 q.tree ++ other) room1 first_is) (q.local m other (room_rest d N m (spell1 p.tree) (spell2 q.tree ++ other) room1) same_first);
          }

      fault : (n : ℕ) (ts : List Lexeme) (k : ℕ) → Room d N n ts → Failed (r1 n ts) (λ (x : A × List Lexeme). r2 x.0 n x.1) k → Fault d N then_spell then_at ts k
      fault n ts k room (in_first e) =
          let f = one.fault n ts k room e in
          record {
            front = f.front;
            rest = f.rest;
            parts = f.parts;
            left = f.left;
            local = λ m other room same_first. ap (λ (r : Result (A × List Lexeme) ℕ). r >>= λ x. r2 x.0 m x.1) (f.local m other room same_first);
            tree = (f.tree, (two (value1 f.tree)).example);
            more = f.more ++ spell2 (two (value1 f.tree)).example;
            alive = ap (λ (w : List Lexeme). w ++ spell2 (two (value1 f.tree)).example) f.alive ∙ append_assoc f.front f.more (spell2 (two (value1 f.tree)).example);
          }
      fault n ts k room (in_second x e1 e2) =
          let p = one.sound n ts x.0 x.1 room e1 in
          let room2 = room_rest d N n (spell1 p.tree) x.1 (subst (λ (w : List Lexeme). Room d N n w) p.parts room) in
          let f = (two x.0).fault n x.1 k room2 e2 in
          record {
            front = spell1 p.tree ++ f.front;
            rest = f.rest;
            parts = p.parts ∙ ap (λ (w : List Lexeme). spell1 p.tree ++ w) f.parts ∙ sym (append_assoc (spell1 p.tree) f.front f.rest);
            left = f.left;
            local = λ m other room3 same_first.
                let regroup = append_assoc (spell1 p.tree) f.front other in
                let room1 = subst (λ (w : List Lexeme). Room d N m w) regroup room3 in
                let first_is = first-append f.front f.rest other same_first ∙ ap first (sym f.parts) in
                ap (then_at m) regroup ∙ again m p.tree x (f.front ++ other) (Err (length other)) (p.local m (f.front ++ other) room1 first_is) (f.local m other (room_rest d N m (spell1 p.tree) (f.front ++ other) room1) same_first);
            tree = (p.tree, f.tree);
            more = f.more;
            alive = ap (λ (w : List Lexeme). spell1 p.tree ++ w) f.alive ∙ sym (append_assoc (spell1 p.tree) f.front f.more);
          }

-- the same where the first reader reads whole trees
pub then_laws : (d N : ℕ) {A B C : Type 0} (spell1 : A → List Lexeme) (r1 : ℕ → Reader A) (value2 : A → B → C) (spell2 : B → List Lexeme) (r2 : A → ℕ → Reader C)
    → Laws d N same spell1 r1 → ((a : A) → Laws d N (value2 a) spell2 (r2 a)) → Laws d N (λ (p : A × B). value2 p.0 p.1) (λ p. spell1 p.0 ++ spell2 p.1) (next_at r1 r2)
then_laws d N {A} spell1 r1 value2 spell2 r2 one two = follow_laws d N (λ (a : A). a) spell1 r1 value2 spell2 r2 one two

-- ---- the last reader, whose value f sees
module _ (d N : ℕ) {E A C : Type 0} (f : A → C) (value1 : E → A) (spell1 : E → List Lexeme) (r1 : ℕ → Reader A) where
  abbrev pub last_at : ℕ → Reader C
  last_at n ts = r1 n ts >>= λ x. Ok (f x.0, x.1)

  abbrev pub last_value : E → C
  last_value e = f (value1 e)

  pub valued_laws : Laws d N value1 spell1 r1 → Laws d N last_value spell1 last_at
  valued_laws one = record {
    example = one.example;
    sound = λ n ts c rest room e. sound n ts c rest room (bind_ok (r1 n ts) (λ x. Ok (f x.0, x.1)) (c, rest) e);
    fault = λ n ts k room e. fault n ts k room (bind_err (r1 n ts) (λ x. Ok (f x.0, x.1)) k e);
  }
    where
      sound : (n : ℕ) (ts : List Lexeme) (c : C) (rest : List Lexeme) → Room d N n ts → (x : A × List Lexeme) × (r1 n ts ≡ Ok x) × (ok {A = C × List Lexeme} (f x.0, x.1) ≡ Ok (c, rest)) → Read d N last_value spell1 last_at ts c rest
      sound n ts c rest room b =
          let p = one.sound n ts b.0.0 b.0.1 room b.1 in
          let e = ok_is (f b.0.0, b.0.1) (c, rest) b.2 in
          let rest-is : b.0.1 ≡ rest = ap (λ (p : C × List Lexeme). p.1) e in
          let c-is : f b.0.0 ≡ c = ap (λ (p : C × List Lexeme). p.0) e in
          record {
            tree = p.tree;
            is = ap f p.is ∙ c-is;
            parts = p.parts ∙ ap (λ (w : List Lexeme). spell1 p.tree ++ w) rest-is;
            local = λ m other room3 same_first. ap (λ (r : Result (A × List Lexeme) ℕ). r >>= λ x. Ok (f x.0, x.1)) (p.local m other room3 (same_first ∙ ap first (sym rest-is))) ∙ ap (λ (x : C). ok {A = C × List Lexeme} (x, other)) c-is;
          }

      fault : (n : ℕ) (ts : List Lexeme) (k : ℕ) → Room d N n ts → Failed (r1 n ts) (λ (x : A × List Lexeme). ok {A = C × List Lexeme} (f x.0, x.1)) k → Fault d N spell1 last_at ts k
      fault n ts k room (in_first e) =
          let g = one.fault n ts k room e in
          record {
            front = g.front;
            rest = g.rest;
            parts = g.parts;
            left = g.left;
            local = λ m other room same_first. ap (λ (r : Result (A × List Lexeme) ℕ). r >>= λ x. Ok (f x.0, x.1)) (g.local m other room same_first);
            tree = g.tree;
            more = g.more;
            alive = g.alive;
          }
      fault n ts k room (in_second x e1 e2) = absurd (ok_err (f x.0, x.1) k e2)

-- the same where the reader reads whole trees
pub last_laws : (d N : ℕ) {A C : Type 0} (f : A → C) (spell1 : A → List Lexeme) (r1 : ℕ → Reader A) → Laws d N same spell1 r1 → Laws d N f spell1 (mapped_at f r1)
last_laws d N {A} f spell1 r1 one = valued_laws d N f (λ (a : A). a) spell1 r1 one

-- ---- a value that takes no token
module _ (d N : ℕ) {C : Type 0} (c : C) where
  abbrev pub done_value : Unit {0} → C
  done_value u = c

  abbrev pub done_spell : Unit {0} → List Lexeme
  done_spell u = []

  abbrev pub done_at : ℕ → Reader C
  done_at n ts = Ok (c, ts)

  pub done_laws : Laws d N done_value done_spell done_at
  done_laws = record {
    example = tt;
    sound = λ n ts x rest room e.
        let x-is : c ≡ x = ap (λ (p : C × List Lexeme). p.0) (ok_is (c, ts) (x, rest) e) in
        record { tree = tt; is = x-is; parts = ap (λ (p : C × List Lexeme). p.1) (ok_is (c, ts) (x, rest) e); local = λ m other room same_first. ap (λ (y : C). ok {A = C × List Lexeme} (y, other)) x-is };
    fault = λ n ts k room e. absurd (ok_err (c, ts) k e);
  }

-- ---- a token that is the only one to pass a test, and what follows it
pub record Only (p : Option Lexeme → Bool) (t : Lexeme) : Type 0 where
  pub passes : p (Some t) ≡ true
  pub only : (u : Lexeme) → p (Some u) ≡ true → u ≡ t
  pub wanted : p None ≡ false

module _ (d N : ℕ) {B C : Type 0} (p : Option Lexeme → Bool) (t : Lexeme) (value : B → C) (spell2 : B → List Lexeme) (r2 : ℕ → Reader C) where
  abbrev pub skip_spell : B → List Lexeme
  skip_spell b = t ∷ spell2 b

  abbrev pub skip_at : ℕ → Reader C
  skip_at n ts = expect p ts >>= λ rest. r2 n rest

  pub skip_laws : Only p t → Laws (suc d) N value spell2 r2 → Laws d N value skip_spell skip_at
  skip_laws is two = record { example = two.example; sound = sound; fault = fault }
    where
      here : (m : ℕ) (ts : List Lexeme) → skip_at m (t ∷ ts) ≡ r2 m ts
      here m ts = rw is.passes refl

      stops : (ts : List Lexeme) → p (first ts) ≡ false → (m : ℕ) → skip_at m ts ≡ Err (length ts)
      stops ts h m = rw h refl

      sound : (n : ℕ) (ts : List Lexeme) (c : C) (rest : List Lexeme) → Room d N n ts → skip_at n ts ≡ Ok (c, rest) → Read d N value skip_spell skip_at ts c rest
      sound n [] c rest room e = absurd (let h = rw is.wanted at e in cc)
      sound n (u ∷ ts) c rest room e = elim (chosen (p (Some u)) (ok ts) (Err (suc (length ts))) (cond (p (Some u)) (ok ts) (Err (suc (length ts)))) refl) [
        | inl w ↦
            let u-is = is.only u w.0 in
            let q = two.sound n ts c rest (room_behind d N n u ts room) (let h = rw w.0 at e in h) in
            record {
              tree = q.tree;
              is = q.is;
              parts = ap (λ (x : Lexeme). x ∷ ts) u-is ∙ ap (λ (w : List Lexeme). t ∷ w) q.parts;
              local = λ m other room3 same_first. here m (spell2 q.tree ++ other) ∙ q.local m other (room_behind d N m t (spell2 q.tree ++ other) room3) same_first;
            }
        | inr w ↦ absurd (let h = rw w.0 at e in cc)
      ]

      at_once : (ts : List Lexeme) (k : ℕ) → p (first ts) ≡ false → length ts ≡ k → Fault d N skip_spell skip_at ts k
      at_once ts k h left = record {
        front = [];
        rest = ts;
        parts = refl;
        left = left;
        local = λ m other room same_first. stops other (ap p same_first ∙ h) m;
        tree = two.example;
        more = t ∷ spell2 two.example;
        alive = refl;
      }

      fault : (n : ℕ) (ts : List Lexeme) (k : ℕ) → Room d N n ts → skip_at n ts ≡ Err k → Fault d N skip_spell skip_at ts k
      fault n [] k room e = at_once [] k is.wanted (err_is {A = C × List Lexeme} 0 k (let h = rw is.wanted at e in h))
      fault n (u ∷ ts) k room e = elim (chosen (p (Some u)) (ok ts) (Err (suc (length ts))) (cond (p (Some u)) (ok ts) (Err (suc (length ts)))) refl) [
        | inl w ↦
            let u-is = is.only u w.0 in
            let f = two.fault n ts k (room_behind d N n u ts room) (let h = rw w.0 at e in h) in
            record {
              front = t ∷ f.front;
              rest = f.rest;
              parts = ap (λ (x : Lexeme). x ∷ ts) u-is ∙ ap (λ (w : List Lexeme). t ∷ w) f.parts;
              left = f.left;
              local = λ m other room3 same_first. here m (f.front ++ other) ∙ f.local m other (room_behind d N m t (f.front ++ other) room3) same_first;
              tree = f.tree;
              more = f.more;
              alive = ap (λ (w : List Lexeme). t ∷ w) f.alive;
            }
        | inr w ↦ at_once (u ∷ ts) k w.0 (err_is {A = C × List Lexeme} (suc (length ts)) k (let h = rw w.0 at e in h))
      ]

-- ---- a choice by the next token
module _ (d N : ℕ) {A B C : Type 0} (p : Option Lexeme → Bool) (value1 : A → C) (spell1 : A → List Lexeme) (r1 : ℕ → Reader C) (value2 : B → C) (spell2 : B → List Lexeme) (r2 : ℕ → Reader C) where
  abbrev pub choice_value : A ⊎ B → C
  choice_value = either value1 value2

  abbrev pub choice_spell : A ⊎ B → List Lexeme
  choice_spell = either spell1 spell2

  abbrev pub choice_at : ℕ → Reader C
  choice_at n ts = cond (p (first ts)) (r1 n ts) (r2 n ts)

  pub choice_laws : Laws d N value1 spell1 r1 → Laws d N value2 spell2 r2 → Laws d N choice_value choice_spell choice_at
  choice_laws one two = record {
    example = inl one.example;
    sound = λ n ts c rest room e. sound n ts c rest room (chosen (p (first ts)) (r1 n ts) (r2 n ts) (Ok (c, rest)) e);
    fault = λ n ts k room e. fault n ts k room (chosen (p (first ts)) (r1 n ts) (r2 n ts) (Err k) e);
  }
    where
      left_at : (m : ℕ) (front rest other ts : List Lexeme) (o : Result (C × List Lexeme) ℕ) → ts ≡ front ++ rest → p (first ts) ≡ true → first other ≡ first rest → r1 m (front ++ other) ≡ o → choice_at m (front ++ other) ≡ o
      left_at m front rest other ts o parts h same_first e =
          let t : p (first (front ++ other)) ≡ true = ap p (first-append front rest other same_first ∙ ap first (sym parts)) ∙ h in
          rw t e

      right_at : (m : ℕ) (front rest other ts : List Lexeme) (o : Result (C × List Lexeme) ℕ) → ts ≡ front ++ rest → p (first ts) ≡ false → first other ≡ first rest → r2 m (front ++ other) ≡ o → choice_at m (front ++ other) ≡ o
      right_at m front rest other ts o parts h same_first e =
          let t : p (first (front ++ other)) ≡ false = ap p (first-append front rest other same_first ∙ ap first (sym parts)) ∙ h in
          rw t e

      sound : (n : ℕ) (ts : List Lexeme) (c : C) (rest : List Lexeme) → Room d N n ts → ((p (first ts) ≡ true) × (r1 n ts ≡ Ok (c, rest))) ⊎ ((p (first ts) ≡ false) × (r2 n ts ≡ Ok (c, rest))) → Read d N choice_value choice_spell choice_at ts c rest
      sound n ts c rest room (inl w) =
          let q = one.sound n ts c rest room w.1 in
          record { tree = inl q.tree; is = q.is; parts = q.parts; local = λ m other room3 same_first. left_at m (spell1 q.tree) rest other ts (Ok (c, other)) q.parts w.0 same_first (q.local m other room3 same_first) }
      sound n ts c rest room (inr w) =
          let q = two.sound n ts c rest room w.1 in
          record { tree = inr q.tree; is = q.is; parts = q.parts; local = λ m other room3 same_first. right_at m (spell2 q.tree) rest other ts (Ok (c, other)) q.parts w.0 same_first (q.local m other room3 same_first) }

      fault : (n : ℕ) (ts : List Lexeme) (k : ℕ) → Room d N n ts → ((p (first ts) ≡ true) × (r1 n ts ≡ Err k)) ⊎ ((p (first ts) ≡ false) × (r2 n ts ≡ Err k)) → Fault d N choice_spell choice_at ts k
      fault n ts k room (inl w) =
          let f = one.fault n ts k room w.1 in
          record {
            front = f.front;
            rest = f.rest;
            parts = f.parts;
            left = f.left;
            tree = inl f.tree;
            more = f.more;
            alive = f.alive;
            local = λ m other room3 same_first. left_at m f.front f.rest other ts (Err (length other)) f.parts w.0 same_first (f.local m other room3 same_first);
          }
      fault n ts k room (inr w) =
          let f = two.fault n ts k room w.1 in
          record {
            front = f.front;
            rest = f.rest;
            parts = f.parts;
            left = f.left;
            tree = inr f.tree;
            more = f.more;
            alive = f.alive;
            local = λ m other room3 same_first. right_at m f.front f.rest other ts (Err (length other)) f.parts w.0 same_first (f.local m other room3 same_first);
          }

-- ---- the same reader, and the tree's own spelling
pub shape : (d N : ℕ) {B C : Type 0} (value : B → C) (spell : B → List Lexeme) (spell' : C → List Lexeme) (r : ℕ → Reader C) (r' : ℕ → Reader C)
    → ((b : B) → spell' (value b) ≡ spell b) → ((n : ℕ) (ts : List Lexeme) → r' (suc n) ts ≡ r (suc n) ts) → Laws d N value spell r → Laws d N same spell' r'
shape d N {B} {C} value spell spell' r r' spells reads laws = record {
  example = value laws.example;
  sound = λ n ts c rest room e. sound n ts c rest room e;
  fault = λ n ts k room e. fault n ts k room e;
}
  where
    moved : (m : ℕ) (ts : List Lexeme) → Room d N m ts → r' m ts ≡ r m ts
    moved zero ts room = absurd (omega (arith, room.long))
    moved (suc m) ts room = reads m ts

    sound : (n : ℕ) (ts : List Lexeme) (c : C) (rest : List Lexeme) → Room d N n ts → r' n ts ≡ Ok (c, rest) → Read d N same spell' r' ts c rest
    sound n ts c rest room e =
        let q = laws.sound n ts c rest room (sym (moved n ts room) ∙ e) in
        let is : spell' c ≡ spell q.tree = ap spell' (sym q.is) ∙ spells q.tree in
        record {
          tree = c;
          is = refl;
          parts = q.parts ∙ ap (λ (w : List Lexeme). w ++ rest) (sym is);
          local = λ m other room3 same_first.
              let room4 = subst (λ (w : List Lexeme). Room d N m (w ++ other)) is room3 in
              moved m (spell' c ++ other) room3 ∙ ap (λ (w : List Lexeme). r m (w ++ other)) is ∙ q.local m other room4 same_first;
        }

    fault : (n : ℕ) (ts : List Lexeme) (k : ℕ) → Room d N n ts → r' n ts ≡ Err k → Fault d N spell' r' ts k
    fault n ts k room e =
        let f = laws.fault n ts k room (sym (moved n ts room) ∙ e) in
        record {
          front = f.front;
          rest = f.rest;
          parts = f.parts;
          left = f.left;
          local = λ m other room3 same_first. moved m (f.front ++ other) room3 ∙ f.local m other room3 same_first;
          tree = value f.tree;
          more = f.more;
          alive = spells f.tree ∙ f.alive;
        }

-- ---- a recursion, one deeper
abbrev pub later : {C : Type 0} → (ℕ → Reader C) → ℕ → Reader C
later r zero ts = Err (length ts)
later r (suc n) ts = r n ts

pub later_laws : (N : ℕ) {C : Type 0} (spell : C → List Lexeme) (r : ℕ → Reader C) → Laws 0 N same spell r → Laws 1 (suc N) same spell (later r)
later_laws N {C} spell r laws = record { example = laws.example; sound = sound; fault = fault }
  where
    less : (n : ℕ) (ts : List Lexeme) → Room 1 (suc N) (suc n) ts → Room 0 N n ts
    less n ts room = record { long = omega (arith, room.long); low = omega (arith, room.low) }

    moved : (o : Result (C × List Lexeme) ℕ) (m : ℕ) (ts : List Lexeme) → Room 1 (suc N) m ts → ((k : ℕ) → Room 0 N k ts → r k ts ≡ o) → later r m ts ≡ o
    moved o zero ts room h = absurd (omega (arith, room.long))
    moved o (suc m) ts room h = h m (less m ts room)

    sound : (n : ℕ) (ts : List Lexeme) (c : C) (rest : List Lexeme) → Room 1 (suc N) n ts → later r n ts ≡ Ok (c, rest) → Read 1 (suc N) same spell (later r) ts c rest
    sound zero ts c rest room e = absurd (omega (arith, room.long))
    sound (suc n) ts c rest room e =
        let q = laws.sound n ts c rest (less n ts room) e in
        record { tree = q.tree; is = q.is; parts = q.parts; local = λ m other room3 same_first. moved (Ok (c, other)) m (spell q.tree ++ other) room3 (λ k room4. q.local k other room4 same_first) }

    fault : (n : ℕ) (ts : List Lexeme) (k : ℕ) → Room 1 (suc N) n ts → later r n ts ≡ Err k → Fault 1 (suc N) spell (later r) ts k
    fault zero ts k room e = absurd (omega (arith, room.long))
    fault (suc n) ts k room e =
        let f = laws.fault n ts k (less n ts room) e in
        record {
          front = f.front;
          rest = f.rest;
          parts = f.parts;
          left = f.left;
          tree = f.tree;
          more = f.more;
          alive = f.alive;
          local = λ m other room3 same_first. moved (Err (length other)) m (f.front ++ other) room3 (λ j room4. f.local j other room4 same_first);
        }

-- nothing has room below no fuel
pub no_laws : (d : ℕ) {C : Type 0} (spell : C → List Lexeme) (r : ℕ → Reader C) → C → Laws d 0 same spell r
no_laws d spell r c = record { example = c; sound = λ n ts c rest room e. absurd (omega (arith, room.long, room.low)); fault = λ n ts k room e. absurd (omega (arith, room.long, room.low)) }

-- less room
pub deeper : (d N : ℕ) {B C : Type 0} (value : B → C) (spell : B → List Lexeme) (r : ℕ → Reader C) → Laws d N value spell r → Laws (suc d) N value spell r
deeper d N {B} {C} value spell r laws = record {
  example = laws.example;
  sound = λ n ts c rest room e.
      let q = laws.sound n ts c rest (wide n ts room) e in
      record { tree = q.tree; is = q.is; parts = q.parts; local = λ m other room3 same_first. q.local m other (wide m (spell q.tree ++ other) room3) same_first };
  fault = λ n ts k room e.
      let f = laws.fault n ts k (wide n ts room) e in
      record {
        front = f.front;
        rest = f.rest;
        parts = f.parts;
        left = f.left;
        tree = f.tree;
        more = f.more;
        alive = f.alive;
        local = λ m other room3 same_first. f.local m other (wide m (f.front ++ other) room3) same_first;
      };
}
  where
    wide : (n : ℕ) (ts : List Lexeme) → Room (suc d) N n ts → Room d N n ts
    wide n ts room = record { long = omega (arith, room.long); low = room.low }
