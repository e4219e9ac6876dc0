-- What is spelled is read again: one part after another, and lists.
use Rattle.std.proofs.Common.{Bool, List, Ok, Option, Result, Some, [], ap, append_assoc, arith, false, flat_map, length, map, refl, subst, ℕ, ◌++◌, ◌∙◌, ◌∷◌, ◌≡◌, ◌≤◌}
use Rattle.std.proofs.lemmas.List.{length-append}
use Rattle.idl_lex.specs.declared.kinds.mark.Mark.TheVariants.{Comma}
use Rattle.idl_tree.specs.Lexeme.{Lexeme, Lexemes, Punctuation}
use Rattle.idl_tree.specs.reading.ReadConstruction.{all_with, listed_with, several}
use Rattle.idl_tree.specs.reading.Reading.{Reader, first, many_of, ◌>>=◌}
use Rattle.idl_tree.specs.Several.{spell_all, spell_listed}
use Rattle.idl_tree.specs.reading.Tests.{is_mark}
use Rattle.idl_tree.specs.declared.several.Several.{Several}
use Rattle.idl_tree.proofs.ReadAgain.Again.{Item, Later, Opens, Tree, goes_or, items, many_again, neither, parted_later}
use Rattle.idl_tree.proofs.Many.{many_spell}
use Rattle.idl_tree.proofs.Readers.NameLaws.{flat_map-many}

-- that these tokens are read as this value, whatever stands behind them, if that doesn't go on with it
abbrev pub Reads : {C : Type 0} → (Option Lexeme → Bool) → Lexemes → Reader C → C → Type 0
Reads goes s r c = (rest : Lexemes) → goes (first rest) ≡ false → r (s ++ rest) ≡ Ok (c, rest)

-- nothing goes on with what ends by itself
abbrev pub nothing : Option Lexeme → Bool
nothing t = false

-- what follows the first part doesn't go on with it
abbrev pub Parted : (Option Lexeme → Bool) → (Option Lexeme → Bool) → Lexemes → Type 0
Parted goes goes' s = (rest : Lexemes) → goes' (first rest) ≡ false → goes (first (s ++ rest)) ≡ false

pub then_reads : {A C : Type 0} (goes goes' : Option Lexeme → Bool) (s s' : Lexemes) (r : Reader A) (r' : A → Reader C) (a : A) (c : C)
    → Reads goes s r a → Reads goes' s' (r' a) c → Parted goes goes' s' → Reads goes' (s ++ s') (λ ts. r ts >>= λ x. r' x.0 x.1) c
then_reads {A} goes goes' s s' r r' a c one two parted rest h =
    ap (λ (w : Lexemes). r w >>= λ x. r' x.0 x.1) (append_assoc s s' rest)
    ∙ ap (λ (o : Result (A × Lexemes) ℕ). o >>= λ x. r' x.0 x.1) (one (s' ++ rest) (parted rest h))
    ∙ two rest h

-- the same tokens, read as they are spelled
pub spelled_reads : {C : Type 0} (goes : Option Lexeme → Bool) (s s' : Lexemes) (r : Reader C) (c : C) → s ≡ s' → Reads goes s' r c → Reads goes s r c
spelled_reads goes s s' r c is reads rest h = ap (λ (w : Lexemes). r (w ++ rest)) is ∙ reads rest h

-- what was read, in another tree
pub mapped_reads : {A C : Type 0} (goes : Option Lexeme → Bool) (s : Lexemes) (r : Reader A) (f : A → C) (a : A) → Reads goes s r a → Reads goes s (λ ts. r ts >>= λ x. Ok (f x.0, x.1)) (f a)
mapped_reads {A} goes s r f a reads rest h = ap (λ (o : Result (A × Lexemes) ℕ). o >>= λ x. Ok (f x.0, x.1)) (reads rest h)

-- ---- lists

-- a value that is read again by each reader that is deep enough, and how it begins
abbrev pub Deep : {X : Type 0} → (Option Lexeme → Bool) → (Option Lexeme → Bool) → (X → Lexemes) → (ℕ → Reader X) → X → Type 0
Deep goes p spell r x = Opens goes p spell x × Later goes spell r x

module _ {X : Type 0} (goes p : Option Lexeme → Bool) (spell : X → Lexemes) (r : ℕ → Reader X) where
  abbrev pub Known_deep : Type 0
  Known_deep = (x : X) × Deep goes p spell r x

  abbrev pub values : List Known_deep → List X
  values xs = map (λ x. x.0) xs

  items_at : (n : ℕ) (xs : List Known_deep) → length (many_spell spell (values xs)) ≤ n → List (Item goes p spell (r n))
  items_at n [] le = []
  items_at n (x ∷ xs) le =
      let sum = length-append (spell x.0) (many_spell spell (values xs)) in
      (x.0, x.1.0, x.1.1 n (omega (arith, le, sum))) ∷ items_at n xs (omega (arith, le, sum))

  items_at-values : (n : ℕ) (xs : List Known_deep) (le : length (many_spell spell (values xs)) ≤ n) → items goes p spell (r n) (items_at n xs le) ≡ values xs
  unfolding items_at
  items_at-values n [] le = refl
  items_at-values n (x ∷ xs) le = ap (λ (w : List X). x.0 ∷ w) (items_at-values n xs _)

  -- either test is false of what stands behind them
  abbrev pub goes_many : Option Lexeme → Bool
  goes_many = goes_or p goes

  pub many_reads : (xs : List Known_deep) (n : ℕ) → length (many_spell spell (values xs)) ≤ n → Reads goes_many (many_spell spell (values xs)) (many_of p (r n)) (values xs)
  many_reads xs n le rest h =
      let both = neither (p (first rest)) (goes (first rest)) h in
      subst (λ (l : List X). many_of p (r n) (many_spell spell l ++ rest) ≡ Ok (l, rest)) (items_at-values n xs le) (many_again goes p spell (r n) (items_at n xs le) rest both.1 both.0)

  known_all : ((x : X) → Deep goes p spell r x) → List X → List Known_deep
  known_all each xs = map (λ x. (x, each x)) xs

  known_all-values : (each : (x : X) → Deep goes p spell r x) (xs : List X) → values (known_all each xs) ≡ xs
  unfolding known_all
  known_all-values each [] = refl
  known_all-values each (x ∷ xs) = ap (λ (w : List X). x ∷ w) (known_all-values each xs)

  -- the same where each value is read
  pub all_read : ((x : X) → Deep goes p spell r x) → (xs : List X) (n : ℕ) → length (many_spell spell xs) ≤ n → Reads goes_many (many_spell spell xs) (many_of p (r n)) xs
  all_read each xs = subst (λ (l : List X). (n : ℕ) → length (many_spell spell l) ≤ n → Reads goes_many (many_spell spell l) (many_of p (r n)) l) (known_all-values each xs) (many_reads (known_all each xs))

-- x/","
pub listed_reads : {X : Type 0} (goes : Option Lexeme → Bool) (spell : X → Lexemes) (r : ℕ → Reader X) → goes (Some (Punctuation Comma)) ≡ false → ((x : X) → Later goes spell r x)
    → (xs : Several X) → Later (goes_or (is_mark Comma) goes) (spell_listed spell) (λ n. listed_with (r n)) xs
listed_reads {X} goes spell r quiet each xs =
    subst (λ (l : List X). Later (goes_or (is_mark Comma) goes) (spell_listed spell) (λ n. listed_with (r n)) (several xs.first l)) (whole xs.rest)
    (parted_later goes Comma several spell (spell_listed spell) r quiet (λ x xs. ap (λ (w : Lexemes). spell x ++ w) (flat_map-many (λ x. Punctuation Comma ∷ spell x) xs)) (xs.first, each xs.first) (map (λ x. (x, each x)) xs.rest))
  where
    whole : (ys : List X) → map (λ (s : Tree goes spell r). s.0) (map (λ x. (x, each x)) ys) ≡ ys
    whole [] = refl
    whole (y ∷ ys) = ap (λ (w : List X). y ∷ w) (whole ys)

-- x+
pub several_read : {X : Type 0} (goes p : Option Lexeme → Bool) (spell : X → Lexemes) (r : ℕ → Reader X) → ((x : X) → Deep goes p spell r x)
    → (xs : Several X) → Later (goes_or p goes) (spell_all spell) (λ n. all_with p (r n)) xs
unfolding all_with
several_read {X} goes p spell r each xs n le =
    let sum = length-append (spell xs.first) (flat_map spell xs.rest) in
    let same_rest = flat_map-many spell xs.rest in
    then_reads goes (goes_or p goes) (spell xs.first) (flat_map spell xs.rest) (r n) (λ x ts. many_of p (r n) ts >>= λ ys. Ok (several x ys.0, ys.1)) xs.first xs
    ((each xs.first).1 n (omega (arith, le, sum)))
    (mapped_reads (goes_or p goes) (flat_map spell xs.rest) (many_of p (r n)) (several xs.first) xs.rest
    (spelled_reads (goes_or p goes) (flat_map spell xs.rest) (many_spell spell xs.rest) (many_of p (r n)) xs.rest same_rest
    (all_read goes p spell r each xs.rest n (omega (arith, le, sum, ap length same_rest)))))
    (λ rest h. parted xs.rest rest (neither (p (first rest)) (goes (first rest)) h).1)
  where
    parted : (ys : List X) (rest : Lexemes) → goes (first rest) ≡ false → goes (first (flat_map spell ys ++ rest)) ≡ false
    parted [] rest h = h
    parted (y ∷ ys) rest h = ap (λ (w : Lexemes). goes (first w)) (append_assoc (spell y) (flat_map spell ys) rest) ∙ (each y).0.stops (flat_map spell ys ++ rest)
