-- Reading of all tokens.
use Rattle.std.proofs.Common.{◌≡◌, ℕ, suc, ◌+◌, ◌<◌, List, [], ◌∷◌, ◌++◌, length, Result, Ok, Err, refl, sym, ap, subst, ◌∙◌, append_assoc, append-nil, arith}
use Rattle.std.proofs.lemmas.List.{length-append}
use Rattle.idl_tree.specs.reading.Fault.{IsFaultAt}
use Rattle.idl_tree.specs.Lexeme.{Lexeme}
use Rattle.idl_tree.specs.reading.Reading.{Reader, first}
use Rattle.idl_tree.proofs.Laws.{ok, ok_is, ok_err, Room, Laws, same}

pub split_same : (a c b d : List Lexeme) → a ++ b ≡ c ++ d → length b ≡ length d → (a ≡ c) × (b ≡ d)
split_same [] [] b d e l = (refl, e)
split_same [] (y ∷ c) b d e l = absurd (omega (arith, l, ap length e, length-append c d))
split_same (x ∷ a) [] b d e l = absurd (omega (arith, l, ap length e, length-append a b))
split_same (x ∷ a) (y ∷ c) b d e l =
    let heads : x ≡ y = cc in
    let tails : a ++ b ≡ c ++ d = cc in
    let s = split_same a c b d tails l in
    (ap (λ (z : Lexeme). z ∷ a) heads ∙ ap (λ (w : List Lexeme). y ∷ w) s.0, s.1)

-- what is left isn't nothing
rest_stays : {A : Type 0} (b a : A) (t : Lexeme) (rest : List Lexeme) → ok {A = A × List Lexeme} (b, []) ≡ Ok (a, t ∷ rest) → ⊥
rest_stays {A} b a t rest e = let h : (let w : List Lexeme = [] in w) ≡ t ∷ rest = ap (λ (p : A × List Lexeme). p.1) (ok_is (b, []) (a, t ∷ rest) e) in absurd cc

module _ {A : Type 0} (spell : A → List Lexeme) (r : ℕ → Reader A) (laws : (N : ℕ) → Laws 0 N same spell r) (again : (a : A) (n : ℕ) → length (spell a) < n → r n (spell a) ≡ Ok (a, [])) where
  pub whole_found : (n : ℕ) (ts : List Lexeme) (a : A) → length ts < n → r n ts ≡ Ok (a, []) → ts ≡ spell a
  whole_found n ts a lt e =
      let q = (laws n).sound n ts a [] (record { long = omega (arith, lt); low = omega arith }) e in
      q.parts ∙ append-nil (spell q.tree) ∙ ap spell q.is

  pub whole_unique : (a b : A) → spell a ≡ spell b → a ≡ b
  whole_unique a b e =
      let both : ok (a, []) ≡ ok (b, []) = sym (again a (suc (length (spell a))) (omega arith)) ∙ ap (r (suc (length (spell a)))) e ∙ again b (suc (length (spell a))) (omega (arith, ap length e)) in
      ap (λ (p : A × List Lexeme). p.0) (ok_is (a, []) (b, []) both)

  -- reading fails here whatever follows the next token
  fails_there : (n : ℕ) (ts : List Lexeme) (k : ℕ) → length ts < n → r n ts ≡ Err k → (front rest : List Lexeme) → ts ≡ front ++ rest → length rest ≡ k → (m : ℕ) (other : List Lexeme) → length (front ++ other) < m → first other ≡ first rest → r m (front ++ other) ≡ Err (length other)
  fails_there n ts k lt e front rest parts left m other lt2 same_first =
      let f = (laws (n + m)).fault n ts k (record { long = omega (arith, lt); low = omega arith }) e in
      let s = split_same f.front front f.rest rest (sym f.parts ∙ parts) (f.left ∙ sym left) in
      let room : Room 0 (n + m) m (f.front ++ other) = record { long = subst (λ (w : List Lexeme). 0 + length (w ++ other) < m) (sym s.0) (omega (arith, lt2)); low = omega arith } in
      ap (λ (w : List Lexeme). r m (w ++ other)) (sym s.0) ∙ f.local m other room (same_first ∙ ap first (sym s.1))

  -- the same tree is read whatever follows the next token
  reads_there : (n : ℕ) (ts : List Lexeme) (a : A) (rest : List Lexeme) → length ts < n → r n ts ≡ Ok (a, rest) → (m : ℕ) (other : List Lexeme) → length (spell a ++ other) < m → first other ≡ first rest → r m (spell a ++ other) ≡ Ok (a, other)
  reads_there n ts a rest lt e m other lt2 same_first =
      let q = (laws (n + m)).sound n ts a rest (record { long = omega (arith, lt); low = omega arith }) e in
      let room : Room 0 (n + m) m (spell q.tree ++ other) = record { long = subst (λ (x : A). 0 + length (spell x ++ other) < m) (sym q.is) (omega (arith, lt2)); low = omega arith } in
      ap (λ (x : A). r m (spell x ++ other)) (sym q.is) ∙ q.local m other room same_first

  -- a whole tree is read otherwise
  not_whole : (front other : List Lexeme) (o : Result (A × List Lexeme) ℕ) → ((m : ℕ) → length (front ++ other) < m → r m (front ++ other) ≡ o) → (a : A) → spell a ≡ front ++ other → ok (a, []) ≡ o
  not_whole front other o reads a e = sym (again a (suc (length (front ++ other))) (omega (arith, ap length e))) ∙ ap (r (suc (length (front ++ other)))) e ∙ reads (suc (length (front ++ other))) (omega arith)

  pub whole_fault : (n : ℕ) (ts : List Lexeme) (k : ℕ) → length ts < n → r n ts ≡ Err k → IsFaultAt spell ts k
  whole_fault n ts k lt e =
      let f = (laws n).fault n ts k (record { long = omega (arith, lt); low = omega arith }) e in
      record {
        front = f.front;
        rest = f.rest;
        parts = f.parts;
        count = f.left;
        begins = (f.tree, f.more, f.alive);
        stops = λ next more is b.
            let other : List Lexeme = next ∷ b.1 in
            ok_err (b.0, []) (length other) (not_whole f.front other (Err (length other)) (λ m lt2. fails_there n ts k lt e f.front f.rest f.parts f.left m other lt2 (ap first (sym is))) b.0 (b.2 ∙ append_assoc f.front (next ∷ []) b.1));
        none = λ a is. ok_err (a, []) k (sym (again a n (omega (arith, lt, ap length is))) ∙ ap (r n) is ∙ e);
      }

  pub whole_rest : (n : ℕ) (ts : List Lexeme) (a : A) (t : Lexeme) (rest : List Lexeme) → length ts < n → r n ts ≡ Ok (a, t ∷ rest) → IsFaultAt spell ts (length (t ∷ rest))
  whole_rest n ts a t rest lt e =
      let q = (laws n).sound n ts a (t ∷ rest) (record { long = omega (arith, lt); low = omega arith }) e in
      record {
        front = spell a;
        rest = t ∷ rest;
        parts = q.parts ∙ ap (λ (x : A). spell x ++ t ∷ rest) q.is;
        count = refl;
        begins = (a, [], sym (append-nil (spell a)));
        stops = λ next more is b.
            let other : List Lexeme = next ∷ b.1 in
            rest_stays b.0 a next b.1 (not_whole (spell a) other (Ok (a, other)) (λ m lt2. reads_there n ts a (t ∷ rest) lt e m other lt2 (ap first (sym is))) b.0 (b.2 ∙ append_assoc (spell a) (next ∷ []) b.1));
        none = λ b is. rest_stays b a t rest (sym (again b n (omega (arith, lt, ap length is))) ∙ ap (r n) is ∙ e);
      }
