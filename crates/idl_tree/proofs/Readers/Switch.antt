-- What holds of a reader that is chosen by the next token.
use Rattle.std.proofs.Common.{◌≡◌, ℕ, suc, [], ◌∷◌, ◌++◌, length, Option, Result, Ok, Err, refl, sym, ap, ◌∙◌}
use Rattle.idl_lex.specs.declared.kinds.keyword.Keyword.{Keyword}
use Rattle.idl_tree.specs.Lexeme.{Lexeme, Lexemes, Word}
use Rattle.idl_tree.specs.reading.Reading.{Reader, first}
use Rattle.idl_tree.specs.reading.Tests.{is_word, by_word}
use Rattle.idl_tree.proofs.Laws.{first-append, Laws, same, mapped_at, behind_at, ends_at, last_laws, done_laws, skip_laws, shape}
use Rattle.idl_tree.proofs.Readers.TokenLaws.{only_word}

-- the key of the next token says which reader reads, and what its trees are
module _ (d N : ℕ) {K C : Type 0} {B : K → Type 0} (key : Option Lexeme → K) (value : (k : K) → B k → C)
    (spell : (k : K) → B k → Lexemes) (r : K → ℕ → Reader C) where
  abbrev pub switch_at : ℕ → Reader C
  switch_at n ts = r (key (first ts)) n ts

  abbrev pub switch_value : (k : K) × B k → C
  switch_value p = value p.0 p.1

  abbrev pub switch_spell : (k : K) × B k → Lexemes
  switch_spell p = spell p.0 p.1

  moved : (m : ℕ) (front rest other ts : Lexemes) (o : Result (C × Lexemes) ℕ) → ts ≡ front ++ rest
      → first other ≡ first rest → r (key (first ts)) m (front ++ other) ≡ o → switch_at m (front ++ other) ≡ o
  moved m front rest other ts o parts same_first e =
      let first-is = first-append front rest other same_first ∙ ap first (sym parts) in
      ap (λ (t : Option Lexeme). r (key t) m (front ++ other)) first-is ∙ e

  pub switch_laws : K → ((k : K) → Laws d N (value k) (spell k) (r k)) → Laws d N switch_value switch_spell switch_at
  switch_laws some each = record {
    example = (some, (each some).example);
    sound = λ n ts c rest room e.
        let k = key (first ts) in
        let q = (each k).sound n ts c rest room e in
        record {
          tree = (k, q.tree);
          is = q.is;
          parts = q.parts;
          local = λ m other room3 same_first. moved m (spell k q.tree) rest other ts (Ok (c, other)) q.parts same_first (q.local m other room3 same_first);
        };
    fault = λ n ts l room e.
        let k = key (first ts) in
        let f = (each k).fault n ts l room e in
        record {
          front = f.front;
          rest = f.rest;
          parts = f.parts;
          left = f.left;
          local = λ m other room3 same_first. moved m f.front f.rest other ts (Err (length other)) f.parts same_first (f.local m other room3 same_first);
          tree = (k, f.tree);
          more = f.more;
          alive = f.alive;
        };
  }

-- the same where each reader reads whole trees
pub by_laws : (d N : ℕ) {K C : Type 0} (key : Option Lexeme → K) (spell : C → Lexemes) (r : K → ℕ → Reader C) → K
    → ((k : K) → Laws d N same spell (r k)) → Laws d N same spell (λ n ts. r (key (first ts)) n ts)
by_laws d N {K} {C} key spell r some each =
    shape d N (λ (p : K × C). p.1) (λ p. spell p.1) spell (λ n ts. r (key (first ts)) n ts) (λ n ts. r (key (first ts)) n ts)
    (λ b. refl) (λ n ts. refl) (switch_laws d N key (λ k c. c) (λ k. spell) r some each)

-- what was read, in another tree
pub mapped_laws : (d N : ℕ) {A C : Type 0} (f : A → C) (spell1 : A → Lexemes) (spell : C → Lexemes) (r : ℕ → Reader A)
    → ((a : A) → spell (f a) ≡ spell1 a) → Laws d N same spell1 r → Laws d N same spell (mapped_at f r)
mapped_laws d N f spell1 spell r spells laws =
    shape d N f spell1 spell (mapped_at f r) (mapped_at f r) spells (λ n ts. refl) (last_laws d N f spell1 r laws)

-- a keyword that ends what was read
abbrev pub word_at : {C : Type 0} → Keyword → C → ℕ → Reader C
word_at k c = behind_at (is_word k) (ends_at c)

pub word_laws : (d N : ℕ) {C : Type 0} (k : Keyword) (c : C) → Laws d N (λ (u : Unit {0}). c) (λ u. Word k ∷ []) (word_at k c)
word_laws d N k c = skip_laws d N (is_word k) (Word k) (λ (u : Unit {0}). c) (λ u. []) (ends_at c) (only_word k) (done_laws (suc d) N c)

-- a tree that is spelled by a keyword alone
pub by_word_laws : (d N : ℕ) {C : Type 0} (spell : C → Lexemes) (k : Keyword) (c : C) → spell c ≡ Word k ∷ [] → Laws d N same spell (λ n. by_word k c)
by_word_laws d N spell k c is =
    shape d N (λ (u : Unit {0}). c) (λ u. Word k ∷ []) spell (word_at k c) (λ n. by_word k c) (λ u. is) (λ n ts. refl) (word_laws d N k c)
