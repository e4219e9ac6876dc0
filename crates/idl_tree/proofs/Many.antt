-- What holds of a reader of items, each of which begins with a token that passes a test.
use Rattle.std.proofs.Common.{◌≡◌, ℕ, zero, suc, ◌<◌, Bool, true, false, List, [], ◌∷◌, ◌++◌, length, Option, Result, Ok, Err, refl, sym, ap, subst, ◌∙◌, append_assoc, append-nil, arith, inl, inr}
use Rattle.std.proofs.lemmas.List.{length-append}
use Rattle.idl_tree.specs.Lexeme.{Lexeme}
use Rattle.idl_tree.specs.reading.Reading.{Reader, ◌>>=◌, first, many_at, many_of}
use Rattle.idl_tree.proofs.Laws.{ok, ok_is, ok_err, bind_ok, bind_err, Failed, in_first, in_second, chosen, first-append, Room, room_rest, Read, Laws, same}

abbrev pub many_spell : {A : Type 0} → (A → List Lexeme) → List A → List Lexeme
many_spell spell [] = []
many_spell spell (x ∷ xs) = spell x ++ many_spell spell xs

module _ (d N : ℕ) {A : Type 0} (p : Option Lexeme → Bool) (spell1 : A → List Lexeme) (r1 : ℕ → Reader A) where
  abbrev go : ℕ → ℕ → Reader (List A)
  go n k ts = many_at p (r1 n) k ts

  abbrev on : ℕ → ℕ → A × List Lexeme → Result (List A × List Lexeme) ℕ
  on n k x = go n k x.1 >>= λ y. Ok (x.0 ∷ y.0, y.1)

  record ReadMany (ts : List Lexeme) (xs : List A) (rest : List Lexeme) : Type 0 where
    parts : ts ≡ many_spell spell1 xs ++ rest
    local : (m j : ℕ) (other : List Lexeme) → Room d N m (many_spell spell1 xs ++ other) → length (many_spell spell1 xs ++ other) < j → first other ≡ first rest → go m j (many_spell spell1 xs ++ other) ≡ Ok (xs, other)

  record FaultMany (ts : List Lexeme) (e : ℕ) : Type 0 where
    front : List Lexeme
    rest : List Lexeme
    parts : ts ≡ front ++ rest
    left : length rest ≡ e
    local : (m j : ℕ) (other : List Lexeme) → Room d N m (front ++ other) → length (front ++ other) < j → first other ≡ first rest → go m j (front ++ other) ≡ Err (length other)
    trees : List A
    more : List Lexeme
    alive : many_spell spell1 trees ≡ front ++ more

  pub many_laws : ((a : A) → 0 < length (spell1 a)) → Laws d N same spell1 r1 → Laws d N same (many_spell spell1) (λ n. many_of p (r1 n))
  many_laws nonempty one = record {
    example = [];
    sound = λ n ts xs rest room e.
        let q = sound (suc (length ts)) n ts xs rest room e in
        record { tree = xs; is = refl; parts = q.parts; local = λ m other room3 same_first. q.local m (suc (length (many_spell spell1 xs ++ other))) other room3 (omega arith) same_first };
    fault = λ n ts e room h.
        let f = fault (suc (length ts)) n ts e room (omega arith) h in
        record {
          front = f.front;
          rest = f.rest;
          parts = f.parts;
          left = f.left;
          tree = f.trees;
          more = f.more;
          alive = f.alive;
          local = λ m other room3 same_first. f.local m (suc (length (f.front ++ other))) other room3 (omega arith) same_first;
        };
  }
    where
      -- one more turn
      turn : (m j : ℕ) (ts : List Lexeme) → p (first ts) ≡ true → go m (suc j) ts ≡ (r1 m ts >>= on m j)
      turn m j ts h = rw h refl

      -- no more turn
      ends : (m j : ℕ) (ts : List Lexeme) → p (first ts) ≡ false → go m (suc j) ts ≡ Ok ([], ts)
      ends m j ts h = rw h refl

      -- an item and more, read again
      again : (m j : ℕ) (front behind ts : List Lexeme) (a : A) (o : Result (List A × List Lexeme) ℕ) → first (front ++ behind) ≡ first ts → p (first ts) ≡ true → length (front ++ behind) < j → 0 < length front → r1 m (front ++ behind) ≡ Ok (a, behind)
          → ((i : ℕ) → length behind < i → on m i (a, behind) ≡ o) → go m j (front ++ behind) ≡ o
      again m zero front behind ts a o f h lt pos e h2 = absurd (omega arith)
      again m (suc j) front behind ts a o f h lt pos e h2 =
          turn m j (front ++ behind) (ap p f ∙ h) ∙ ap (λ (r : Result (A × List Lexeme) ℕ). r >>= on m j) e ∙ h2 j (omega (arith, lt, pos, length-append front behind))

      sound : (k n : ℕ) (ts : List Lexeme) (xs : List A) (rest : List Lexeme) → Room d N n ts → go n k ts ≡ Ok (xs, rest) → ReadMany ts xs rest
      sound zero n ts xs rest room e = absurd cc
      sound (suc k) n ts xs rest room e = elim (chosen (p (first ts)) (r1 n ts >>= on n k) (Ok ([], ts)) (Ok (xs, rest)) e) [
        | inl w ↦
            let b = bind_ok (r1 n ts) (on n k) (xs, rest) w.1 in
            let q = one.sound n ts b.0.0 b.0.1 room b.1 in
            let b2 = bind_ok (go n k b.0.1) (λ y. Ok (b.0.0 ∷ y.0, y.1)) (xs, rest) b.2 in
            let both = ok_is (b.0.0 ∷ b2.0.0, b2.0.1) (xs, rest) b2.2 in
            let rest-is : b2.0.1 ≡ rest = ap (λ (p : List A × List Lexeme). p.1) both in
            let xs-is : q.tree ∷ b2.0.0 ≡ xs = ap (λ (a : A). a ∷ b2.0.0) q.is ∙ ap (λ (p : List A × List Lexeme). p.0) both in
            let s = sound k n b.0.1 b2.0.0 b2.0.1 (room_rest d N n (spell1 q.tree) b.0.1 (subst (λ (w : List Lexeme). Room d N n w) q.parts room)) b2.1 in
            let whole : ReadMany ts (q.tree ∷ b2.0.0) rest = record {
              parts = q.parts ∙ ap (λ (w : List Lexeme). spell1 q.tree ++ w) (s.parts ∙ ap (λ (w : List Lexeme). many_spell spell1 b2.0.0 ++ w) rest-is) ∙ sym (append_assoc (spell1 q.tree) (many_spell spell1 b2.0.0) rest);
              local = λ m j other room3 lt same_first.
                  let behind : List Lexeme = many_spell spell1 b2.0.0 ++ other in
                  let regroup = append_assoc (spell1 q.tree) (many_spell spell1 b2.0.0) other in
                  let room4 = subst (λ (w : List Lexeme). Room d N m w) regroup room3 in
                  let first_is : first other ≡ first b2.0.1 = same_first ∙ ap first (sym rest-is) in
                  let first_behind : first behind ≡ first b.0.1 = first-append (many_spell spell1 b2.0.0) b2.0.1 other first_is ∙ ap first (sym s.parts) in
                  let long : length (spell1 q.tree ++ behind) < j = subst (λ (w : List Lexeme). length w < j) regroup lt in
                  ap (go m j) regroup ∙ again m j (spell1 q.tree) behind ts b.0.0 (Ok (q.tree ∷ b2.0.0, other)) (first-append (spell1 q.tree) b.0.1 behind first_behind ∙ ap first (sym q.parts)) w.0 long (nonempty q.tree) (q.local m behind room4 first_behind)
                  (λ i lt2. ap (λ (r : Result (List A × List Lexeme) ℕ). r >>= λ y. Ok (b.0.0 ∷ y.0, y.1)) (s.local m i other (room_rest d N m (spell1 q.tree) behind room4) lt2 first_is) ∙ ap (λ (a : A). ok {A = List A × List Lexeme} (a ∷ b2.0.0, other)) (sym q.is));
            } in
            subst (λ (v : List A). ReadMany ts v rest) xs-is whole
        | inr w ↦
            let both = ok_is ([], ts) (xs, rest) w.1 in
            let rest-is : ts ≡ rest = ap (λ (p : List A × List Lexeme). p.1) both in
            let whole : ReadMany ts [] rest = record {
              parts = rest-is;
              local = λ m j other room3 lt same_first. stop m j other lt (ap p (same_first ∙ ap first (sym rest-is)) ∙ w.0);
            } in
            subst (λ (v : List A). ReadMany ts v rest) (ap (λ (p : List A × List Lexeme). p.0) both) whole
      ]
        where
          stop : (m j : ℕ) (other : List Lexeme) → length other < j → p (first other) ≡ false → go m j other ≡ Ok ([], other)
          stop m zero other lt h = absurd (omega arith)
          stop m (suc j) other lt h = ends m j other h

      fault : (k n : ℕ) (ts : List Lexeme) (e : ℕ) → Room d N n ts → length ts < k → go n k ts ≡ Err e → FaultMany ts e
      fault zero n ts e room lt h = absurd (omega arith)
      fault (suc k) n ts e room lt h = elim (chosen (p (first ts)) (r1 n ts >>= on n k) (Ok ([], ts)) (Err e) h) [
        | inl w ↦ fault_in k n ts e room lt w.0 (λ b1 q. fault k n b1) (bind_err (r1 n ts) (on n k) e w.1)
        | inr w ↦ absurd (ok_err ([], ts) e w.1)
      ]
        where
          fault_in : (k n : ℕ) (ts : List Lexeme) (e : ℕ) → Room d N n ts → length ts < suc k → p (first ts) ≡ true
              → ((ts2 : List Lexeme) → length ts2 < k → (e2 : ℕ) → Room d N n ts2 → length ts2 < k → go n k ts2 ≡ Err e2 → FaultMany ts2 e2)
              → Failed (r1 n ts) (on n k) e → FaultMany ts e
          fault_in k n ts e room lt h rec (in_first g) =
              let f = one.fault n ts e room g in
              record {
                front = f.front;
                rest = f.rest;
                parts = f.parts;
                left = f.left;
                local = λ m j other room3 lt3 same_first. stuck m j (f.front ++ other) (length other) lt3 (ap p (first-append f.front f.rest other same_first ∙ ap first (sym f.parts)) ∙ h) (f.local m other room3 same_first);
                trees = f.tree ∷ [];
                more = f.more;
                alive = append-nil (spell1 f.tree) ∙ f.alive;
              }
            where
              stuck : (m j : ℕ) (other : List Lexeme) (l : ℕ) → length other < j → p (first other) ≡ true → r1 m other ≡ Err l → go m j other ≡ Err l
              stuck m zero other l lt h e = absurd (omega arith)
              stuck m (suc j) other l lt h e = turn m j other h ∙ ap (λ (r : Result (A × List Lexeme) ℕ). r >>= on m j) e
          fault_in k n ts e room lt h rec (in_second x g1 g2) =
              let q = one.sound n ts x.0 x.1 room g1 in
              let shorter : length x.1 < k = omega (arith, ap length q.parts, length-append (spell1 q.tree) x.1, nonempty q.tree, lt) in
              fault_behind (bind_err (go n k x.1) (λ y. Ok (x.0 ∷ y.0, y.1)) e g2) q shorter
            where
              fault_behind : Failed (go n k x.1) (λ (y : List A × List Lexeme). ok {A = List A × List Lexeme} (x.0 ∷ y.0, y.1)) e → Read d N same spell1 r1 ts x.0 x.1 → length x.1 < k → FaultMany ts e
              fault_behind (in_first g) q shorter =
                  let f = rec x.1 shorter e (room_rest d N n (spell1 q.tree) x.1 (subst (λ (w : List Lexeme). Room d N n w) q.parts room)) shorter g in
                  record {
                    front = spell1 q.tree ++ f.front;
                    rest = f.rest;
                    parts = q.parts ∙ ap (λ (w : List Lexeme). spell1 q.tree ++ w) f.parts ∙ sym (append_assoc (spell1 q.tree) f.front f.rest);
                    left = f.left;
                    local = λ m j other room3 lt3 same_first.
                        let behind : List Lexeme = f.front ++ other in
                        let regroup = append_assoc (spell1 q.tree) f.front other in
                        let room4 = subst (λ (w : List Lexeme). Room d N m w) regroup room3 in
                        let first_behind : first behind ≡ first x.1 = first-append f.front f.rest other same_first ∙ ap first (sym f.parts) in
                        let long : length (spell1 q.tree ++ behind) < j = subst (λ (w : List Lexeme). length w < j) regroup lt3 in
                        ap (go m j) regroup ∙ again m j (spell1 q.tree) behind ts x.0 (Err (length other)) (first-append (spell1 q.tree) x.1 behind first_behind ∙ ap first (sym q.parts)) h long (nonempty q.tree) (q.local m behind room4 first_behind)
                        (λ i lt2. ap (λ (r : Result (List A × List Lexeme) ℕ). r >>= λ y. Ok (x.0 ∷ y.0, y.1)) (f.local m i other (room_rest d N m (spell1 q.tree) behind room4) lt2 same_first));
                    trees = q.tree ∷ f.trees;
                    more = f.more;
                    alive = ap (λ (w : List Lexeme). spell1 q.tree ++ w) f.alive ∙ sym (append_assoc (spell1 q.tree) f.front f.more);
                  }
              fault_behind (in_second y g3 g4) q shorter = absurd (ok_err (x.0 ∷ y.0, y.1) e g4)
