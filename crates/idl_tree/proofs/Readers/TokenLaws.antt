-- What holds of readers of single tokens.
use Rattle.std.proofs.Common.{◌≡◌, ℕ, suc, true, List, [], ◌∷◌, Option, Some, None, Ok, Err, length, refl, ap, ◌∙◌}
use denote.Enum.Bare.{same_true, true_same}
use Rattle.idl_lex.specs.contracts.kinds.keyword.Keyword.{the_type as the_keywords}
use Rattle.idl_lex.specs.contracts.kinds.mark.Mark.{the_type as the_marks}
use Rattle.idl_lex.specs.declared.kinds.keyword.Keyword.{Keyword}
use Rattle.idl_lex.specs.declared.kinds.mark.Mark.{Mark}
use Rattle.idl_tree.specs.Lexeme.{Lexeme, Word, Punctuation, Identifier}
use Rattle.idl_tree.specs.reading.Reading.{Reader, first}
use Rattle.idl_tree.specs.reading.Tests.{is_mark, is_word, identifier_of, identifier_at, pick, picked}
use Rattle.idl_tree.proofs.Laws.{ok_is, err_is, Read, Fault, Laws, same, behind_at, ends_at, done_laws, Only, skip_laws}

pub only_mark : (m : Mark) → Only (is_mark m) (Punctuation m)
only_mark m = record { passes = true_same the_marks m m refl; only = only; wanted = refl }
  where
    only : (u : Lexeme) → is_mark m (Some u) ≡ true → u ≡ Punctuation m
    only (Punctuation n) h = ap Punctuation (same_true the_marks tt n m h)
    only _ h = absurd cc

pub only_word : (k : Keyword) → Only (is_word k) (Word k)
only_word k = record { passes = true_same the_keywords k k refl; only = only; wanted = refl }
  where
    only : (u : Lexeme) → is_word k (Some u) ≡ true → u ≡ Word k
    only (Word n) h = ap Word (same_true the_keywords tt n k h)
    only _ h = absurd cc

-- what is picked is the value of one token
pub record Picks {A : Type 0} (f : Option Lexeme → Option A) (token : A → Lexeme) : Type 0 where
  pub example : A
  pub wanted : f None ≡ None
  pub only : (t : Lexeme) (a : A) → f (Some t) ≡ Some a → t ≡ token a
  pub again : (a : A) → f (Some (token a)) ≡ Some a

-- which way a picking went
pub data Picked {A : Type 0} (o : Option A) : Type 0 where
  is_there : (a : A) → o ≡ Some a → Picked o
  is_not : o ≡ None → Picked o

pub picked_cases : {A : Type 0} (o : Option A) → Picked o
picked_cases (Some a) = is_there a refl
picked_cases None = is_not refl

pub pick_laws : (d N : ℕ) {A : Type 0} (f : Option Lexeme → Option A) (token : A → Lexeme) → Picks f token → Laws d N same (λ a. token a ∷ []) (λ n. pick f)
pick_laws d N {A} f token is = record {
  example = is.example;
  sound = λ n ts c rest room e. sound n ts c rest (picked_cases (f (first ts))) e;
  fault = λ n ts k room e. fault ts k (picked_cases (f (first ts))) e;
}
  where
    sound : (n : ℕ) (ts : List Lexeme) (c : A) (rest : List Lexeme) → Picked (f (first ts)) → pick f ts ≡ Ok (c, rest) → Read d N same (λ a. token a ∷ []) (λ n. pick f) ts c rest
    sound n [] c rest p e = absurd (let h = rw is.wanted at e in cc)
    sound n (t ∷ ts) c rest (is_not h) e = absurd (let g = rw h at e in cc)
    sound n (t ∷ ts) c rest (is_there a h) e =
        let both = ok_is (a, ts) (c, rest) (let g = rw h at e in g) in
        let c-is : a ≡ c = ap (λ (p : A × List Lexeme). p.0) both in
        let t-is : t ≡ token c = is.only t c (h ∙ ap Some c-is) in
        let rest-is : ts ≡ rest = ap (λ (p : A × List Lexeme). p.1) both in
        record {
          tree = c;
          is = refl;
          parts = ap (λ (x : Lexeme). x ∷ ts) t-is ∙ ap (λ (w : List Lexeme). token c ∷ w) rest-is;
          local = λ m other room3 same_first. ap (λ (o : Option A). picked o (token c ∷ other)) (is.again c);
        }

    stops : (ts : List Lexeme) → f (first ts) ≡ None → pick f ts ≡ Err (length ts)
    stops ts h = rw h refl

    at_once : (ts : List Lexeme) (k : ℕ) → f (first ts) ≡ None → length ts ≡ k → Fault d N (λ a. token a ∷ []) (λ n. pick f) ts k
    at_once ts k h left = record {
      front = [];
      rest = ts;
      parts = refl;
      left = left;
      local = λ m other room same_first. stops other (ap f same_first ∙ h);
      tree = is.example;
      more = token is.example ∷ [];
      alive = refl;
    }

    fault : (ts : List Lexeme) (k : ℕ) → Picked (f (first ts)) → pick f ts ≡ Err k → Fault d N (λ a. token a ∷ []) (λ n. pick f) ts k
    fault ts k (is_not h) e = at_once ts k h (err_is {A = A × List Lexeme} (length ts) k (let g = rw h at e in g))
    fault ts k (is_there a h) e = absurd (let g = rw h at e in cc)

pub some_is : {A : Type 0} (x y : A) → (let o : Option A = Some x in o) ≡ Some y → x ≡ y
some_is x y e = cc

pub identifiers : Picks identifier_of Identifier
identifiers = record { example = []; wanted = refl; only = only; again = λ a. refl }
  where
    only : (t : Lexeme) (a : List ℕ) → identifier_of (Some t) ≡ Some a → t ≡ Identifier a
    only (Identifier s) a h = ap Identifier (some_is s a h)
    only _ a h = absurd cc

abbrev pub one_token : {A : Type 0} → (A → Lexeme) → A → List Lexeme
one_token token a = token a ∷ []

pub identifier_laws : (d N : ℕ) → Laws d N same (one_token Identifier) (λ n. identifier_at)
identifier_laws d N = pick_laws d N identifier_of Identifier identifiers

-- a mark that ends what was read
abbrev pub close_at : {C : Type 0} → Mark → C → ℕ → Reader C
close_at m c = behind_at (is_mark m) (ends_at c)

pub close_laws : (d N : ℕ) {C : Type 0} (m : Mark) (c : C) → Laws d N (λ (u : Unit {0}). c) (λ u. Punctuation m ∷ []) (close_at m c)
close_laws d N m c = skip_laws d N (is_mark m) (Punctuation m) (λ (u : Unit {0}). c) (λ u. []) (ends_at c) (only_mark m) (done_laws (suc d) N c)
