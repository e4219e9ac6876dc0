-- What is spelled is read again: lists of items, each of which begins with a token that passes a test.
use Rattle.std.proofs.Common.{◌≡◌, ◌∙◌, ℕ, zero, suc, ◌<◌, ◌≤◌, Bool, true, false, cond, is_some, List, [], ◌∷◌, ◌++◌, map, length, Option, Some, Result, Ok, Err, refl, ap, subst, append_assoc, arith}
use Rattle.std.proofs.lemmas.List.{length-append}
use Rattle.idl_lex.specs.declared.kinds.mark.Mark.{Mark}
use Rattle.idl_tree.specs.Lexeme.{Lexeme, Lexemes, Punctuation}
use Rattle.idl_tree.specs.reading.ReadExpression.{step_with, chain_with, behind_with, parted_with}
use Rattle.idl_tree.specs.reading.Reading.{Reader, ◌>>=◌, first, many_at, many_of}
use Rattle.idl_tree.specs.reading.Tests.{is_mark, picked}
use Rattle.idl_tree.proofs.Many.{many_spell}
use Rattle.idl_tree.proofs.Readers.TokenLaws.{Picks, only_mark}

-- an item is read again, whatever stands behind it, if that doesn't go on with it
abbrev pub IsRead : {X : Type 0} → (Option Lexeme → Bool) → (X → Lexemes) → Reader X → X → Type 0
IsRead goes spell r x = (rest : Lexemes) → goes (first rest) ≡ false → r (spell x ++ rest) ≡ Ok (x, rest)

-- it begins with a token that passes the test and that goes on with nothing
pub record Opens {X : Type 0} (goes p : Option Lexeme → Bool) (spell : X → Lexemes) (x : X) : Type 0 where
  pub passes : (rest : Lexemes) → p (first (spell x ++ rest)) ≡ true
  pub stops : (rest : Lexemes) → goes (first (spell x ++ rest)) ≡ false
  pub some : 0 < length (spell x)

module _ {X : Type 0} (goes p : Option Lexeme → Bool) (spell : X → Lexemes) (r : Reader X) where
  abbrev pub Item : Type 0
  Item = (x : X) × Opens goes p spell x × IsRead goes spell r x

  abbrev pub items : List Item → List X
  items xs = map (λ i. i.0) xs

  stopped : (xs : List Item) (rest : Lexemes) → goes (first rest) ≡ false → goes (first (many_spell spell (items xs) ++ rest)) ≡ false
  stopped [] rest h = h
  stopped (x ∷ xs) rest h = ap (λ (w : Lexemes). goes (first w)) (append_assoc (spell x.0) (many_spell spell (items xs)) rest) ∙ x.1.stops (many_spell spell (items xs) ++ rest)

  turn : (k : ℕ) (ts : Lexemes) → p (first ts) ≡ true → many_at p r (suc k) ts ≡ (r ts >>= λ x. many_at p r k x.1 >>= λ y. Ok (x.0 ∷ y.0, y.1))
  turn k ts h = rw h refl

  ends : (k : ℕ) (ts : Lexemes) → p (first ts) ≡ false → many_at p r (suc k) ts ≡ Ok ([], ts)
  ends k ts h = rw h refl

  many_again_at : (k : ℕ) (xs : List Item) (rest : Lexemes) → goes (first rest) ≡ false → p (first rest) ≡ false → length (many_spell spell (items xs) ++ rest) < k
      → many_at p r k (many_spell spell (items xs) ++ rest) ≡ Ok (items xs, rest)
  many_again_at zero xs rest h e lt = absurd (omega (arith, lt))
  many_again_at (suc k) [] rest h e lt = ends k rest e
  many_again_at (suc k) (x ∷ xs) rest h e lt =
      let behind : Lexemes = many_spell spell (items xs) ++ rest in
      let group = append_assoc (spell x.0) (many_spell spell (items xs)) rest in
      let shorter : length behind < k = omega (arith, lt, ap length group, length-append (spell x.0) behind, x.1.some) in
      ap (λ (w : Lexemes). many_at p r (suc k) w) group
      ∙ turn k (spell x.0 ++ behind) (x.1.passes behind)
      ∙ ap (λ (o : Result (X × Lexemes) ℕ). o >>= λ y. many_at p r k y.1 >>= λ z. Ok (y.0 ∷ z.0, z.1)) (x.2 behind (stopped xs rest h))
      ∙ ap (λ (o : Result (List X × Lexemes) ℕ). o >>= λ z. Ok (x.0 ∷ z.0, z.1)) (many_again_at k xs rest h e shorter)

  pub many_again : (xs : List Item) (rest : Lexemes) → goes (first rest) ≡ false → p (first rest) ≡ false → many_of p r (many_spell spell (items xs) ++ rest) ≡ Ok (items xs, rest)
  many_again xs rest h e = many_again_at (suc (length (many_spell spell (items xs) ++ rest))) xs rest h e (omega arith)

-- ---- ranks of operators

-- a value with its being read
abbrev pub Known : {X : Type 0} → (Option Lexeme → Bool) → (X → Lexemes) → Reader X → Type 0
Known {X} goes spell r = (x : X) × IsRead goes spell r x

abbrev pub spell_operated : {O A : Type 0} → (O → Lexeme) → (A → Lexemes) → O × A → Lexemes
spell_operated token spell s = token s.0 ∷ spell s.1

-- what goes on with an operand, or is an operator of its rank
abbrev pub goes_or : (Option Lexeme → Bool) → (Option Lexeme → Bool) → Option Lexeme → Bool
goes_or p goes t = cond (p t) true (goes t)

pub neither : (b c : Bool) → cond b true c ≡ false → (b ≡ false) × (c ≡ false)
neither true c h = absurd cc
neither false c h = (refl, h)

module _ {O A C : Type 0} (goes : Option Lexeme → Bool) (operator : Option Lexeme → Option O) (token : O → Lexeme) (make : A → List (O × A) → C) (spell : A → Lexemes) (spell' : C → Lexemes) (r : Reader A)
    (is : Picks operator token) (quiet : (o : O) → goes (Some (token o)) ≡ false) (spells : (x : A) (xs : List (O × A)) → spell' (make x xs) ≡ spell x ++ many_spell (spell_operated token spell) xs) where
  abbrev shown : O × Known goes spell r → O × A
  shown s = (s.0, s.1.0)

  step_again : (o : O) (a : A) → IsRead goes spell r a → IsRead goes (spell_operated token spell) (step_with operator r) (o, a)
  unfolding step_with
  step_again o a reads rest h =
      ap (λ (p : Option O). picked p (token o ∷ (spell a ++ rest)) >>= λ o. r o.1 >>= λ x. Ok ((o.0, x.0), x.1)) (is.again o)
      ∙ ap (λ (q : Result (A × Lexemes) ℕ). q >>= λ x. Ok ((o, x.0), x.1)) (reads rest h)

  to_item : O × Known goes spell r → Item goes (λ t. is_some (operator t)) (spell_operated token spell) (step_with operator r)
  to_item s = ((s.0, s.1.0), record { passes = λ rest. ap is_some (is.again s.0); stops = λ rest. quiet s.0; some = omega arith }, step_again s.0 s.1.0 s.1.1)

  items-shown : (xs : List (O × Known goes spell r)) → items goes (λ t. is_some (operator t)) (spell_operated token spell) (step_with operator r) (map to_item xs) ≡ map shown xs
  unfolding to_item
  items-shown [] = refl
  items-shown (x ∷ xs) = ap (λ (w : List (O × A)). shown x ∷ w) (items-shown xs)

  pub chain_again : (x : Known goes spell r) (xs : List (O × Known goes spell r)) → IsRead (goes_or (λ t. is_some (operator t)) goes) spell' (chain_with make operator r) (make x.0 (map shown xs))
  unfolding chain_with
  chain_again x xs rest h =
      let both = neither (is_some (operator (first rest))) (goes (first rest)) h in
      let p : Option Lexeme → Bool = λ t. is_some (operator t) in
      let spell_step : O × A → Lexemes = spell_operated token spell in
      let ys = map to_item xs in
      let same_items = items-shown xs in
      let behind : Lexemes = many_spell spell_step (map shown xs) ++ rest in
      let stops : goes (first behind) ≡ false = subst (λ (l : List (O × A)). goes (first (many_spell spell_step l ++ rest)) ≡ false) same_items (stopped goes p spell_step (step_with operator r) ys rest both.1) in
      let more : many_of p (step_with operator r) behind ≡ Ok (map shown xs, rest) =
      subst (λ (l : List (O × A)). many_of p (step_with operator r) (many_spell spell_step l ++ rest) ≡ Ok (l, rest)) same_items (many_again goes p spell_step (step_with operator r) ys rest both.1 both.0) in
      ap (λ (w : Lexemes). chain_with make operator r (w ++ rest)) (spells x.0 (map shown xs))
      ∙ ap (chain_with make operator r) (append_assoc (spell x.0) (many_spell spell_step (map shown xs)) rest)
      ∙ ap (λ (q : Result (A × Lexemes) ℕ). q >>= λ y. many_of p (step_with operator r) y.1 >>= λ z. Ok (make y.0 z.0, z.1)) (x.1 behind stops)
      ∙ ap (λ (q : Result (List (O × A) × Lexemes) ℕ). q >>= λ z. Ok (make x.0 z.0, z.1)) more

module _ {A C : Type 0} (goes : Option Lexeme → Bool) (m : Mark) (make : A → List A → C) (spell : A → Lexemes) (spell' : C → Lexemes) (r : Reader A)
    (quiet : goes (Some (Punctuation m)) ≡ false) (spells : (x : A) (xs : List A) → spell' (make x xs) ≡ spell x ++ many_spell (λ a. Punctuation m ∷ spell a) xs) where
  abbrev shown_part : Known goes spell r → A
  shown_part s = s.0

  abbrev spell_part : A → Lexemes
  spell_part a = Punctuation m ∷ spell a

  passes_mark : (rest : Lexemes) → is_mark m (first (Punctuation m ∷ rest)) ≡ true
  passes_mark rest = (only_mark m).passes

  behind_again : (a : A) → IsRead goes spell r a → IsRead goes spell_part (behind_with m r) a
  unfolding behind_with
  behind_again a reads rest h = ap (λ (b : Bool). cond b (let o : Result Lexemes ℕ = Ok (spell a ++ rest) in o) (Err (suc (length (spell a ++ rest)))) >>= λ w. r w) (only_mark m).passes ∙ reads rest h

  to_part : Known goes spell r → Item goes (is_mark m) spell_part (behind_with m r)
  to_part s = (s.0, record { passes = λ rest. passes_mark (spell s.0 ++ rest); stops = λ rest. quiet; some = omega arith }, behind_again s.0 s.1)

  parts-shown : (xs : List (Known goes spell r)) → items goes (is_mark m) spell_part (behind_with m r) (map to_part xs) ≡ map shown_part xs
  unfolding to_part
  parts-shown [] = refl
  parts-shown (x ∷ xs) = ap (λ (w : List A). x.0 ∷ w) (parts-shown xs)

  pub parted_again : (x : Known goes spell r) (xs : List (Known goes spell r)) → IsRead (goes_or (is_mark m) goes) spell' (parted_with make m r) (make x.0 (map shown_part xs))
  unfolding parted_with
  parted_again x xs rest h =
      let both = neither (is_mark m (first rest)) (goes (first rest)) h in
      let ys = map to_part xs in
      let same_items = parts-shown xs in
      let behind : Lexemes = many_spell spell_part (map shown_part xs) ++ rest in
      let stops : goes (first behind) ≡ false = subst (λ (l : List A). goes (first (many_spell spell_part l ++ rest)) ≡ false) same_items (stopped goes (is_mark m) spell_part (behind_with m r) ys rest both.1) in
      let more : many_of (is_mark m) (behind_with m r) behind ≡ Ok (map shown_part xs, rest) =
      subst (λ (l : List A). many_of (is_mark m) (behind_with m r) (many_spell spell_part l ++ rest) ≡ Ok (l, rest)) same_items (many_again goes (is_mark m) spell_part (behind_with m r) ys rest both.1 both.0) in
      ap (λ (w : Lexemes). parted_with make m r (w ++ rest)) (spells x.0 (map shown_part xs))
      ∙ ap (parted_with make m r) (append_assoc (spell x.0) (many_spell spell_part (map shown_part xs)) rest)
      ∙ ap (λ (q : Result (A × Lexemes) ℕ). q >>= λ y. many_of (is_mark m) (behind_with m r) y.1 >>= λ z. Ok (make y.0 z.0, z.1)) (x.1 behind stops)
      ∙ ap (λ (q : Result (List A × Lexemes) ℕ). q >>= λ z. Ok (make x.0 z.0, z.1)) more

-- ---- trees

-- it is read again by each reader that is deep enough
abbrev pub Later : {X : Type 0} → (Option Lexeme → Bool) → (X → Lexemes) → (ℕ → Reader X) → X → Type 0
Later goes spell r x = (n : ℕ) → length (spell x) ≤ n → IsRead goes spell (r n) x

abbrev pub Tree : {X : Type 0} → (Option Lexeme → Bool) → (X → Lexemes) → (ℕ → Reader X) → Type 0
Tree {X} goes spell r = (x : X) × Later goes spell r x

module _ {O A C : Type 0} (goes : Option Lexeme → Bool) (operator : Option Lexeme → Option O) (token : O → Lexeme) (make : A → List (O × A) → C) (spell : A → Lexemes) (spell' : C → Lexemes) (r : ℕ → Reader A)
    (is : Picks operator token) (quiet : (o : O) → goes (Some (token o)) ≡ false) (spells : (x : A) (xs : List (O × A)) → spell' (make x xs) ≡ spell x ++ many_spell (spell_operated token spell) xs) where
  abbrev pub plain : O × Tree goes spell r → O × A
  plain s = (s.0, s.1.0)

  deep : (n : ℕ) (xs : List (O × Tree goes spell r)) → length (many_spell (spell_operated token spell) (map plain xs)) ≤ n → List (O × Known goes spell (r n))
  deep n [] le = []
  deep n (x ∷ xs) le =
      let sum = length-append (spell_operated token spell (plain x)) (many_spell (spell_operated token spell) (map plain xs)) in
      (x.0, (x.1.0, x.1.1 n (omega (arith, le, sum)))) ∷ deep n xs (omega (arith, le, sum))

  deep-plain : (n : ℕ) (xs : List (O × Tree goes spell r)) (le : length (many_spell (spell_operated token spell) (map plain xs)) ≤ n) → map (λ (s : O × Known goes spell (r n)). (s.0, s.1.0)) (deep n xs le) ≡ map plain xs
  unfolding deep
  deep-plain n [] le = refl
  deep-plain n (x ∷ xs) le = ap (λ (w : List (O × A)). plain x ∷ w) (deep-plain n xs _)

  pub chain_later : (x : Tree goes spell r) (xs : List (O × Tree goes spell r)) → Later (goes_or (λ t. is_some (operator t)) goes) spell' (λ n. chain_with make operator (r n)) (make x.0 (map plain xs))
  chain_later x xs n le =
      let parts = spells x.0 (map plain xs) in
      let sum = ap length parts ∙ length-append (spell x.0) (many_spell (spell_operated token spell) (map plain xs)) in
      let rest_le : length (many_spell (spell_operated token spell) (map plain xs)) ≤ n = omega (arith, le, sum) in
      subst (λ (l : List (O × A)). IsRead (goes_or (λ t. is_some (operator t)) goes) spell' (chain_with make operator (r n)) (make x.0 l)) (deep-plain n xs rest_le)
      (chain_again goes operator token make spell spell' (r n) is quiet spells (x.0, x.1 n (omega (arith, le, sum))) (deep n xs rest_le))

module _ {A C : Type 0} (goes : Option Lexeme → Bool) (m : Mark) (make : A → List A → C) (spell : A → Lexemes) (spell' : C → Lexemes) (r : ℕ → Reader A)
    (quiet : goes (Some (Punctuation m)) ≡ false) (spells : (x : A) (xs : List A) → spell' (make x xs) ≡ spell x ++ many_spell (λ a. Punctuation m ∷ spell a) xs) where
  abbrev pub bare : Tree goes spell r → A
  bare s = s.0

  deep_parts : (n : ℕ) (xs : List (Tree goes spell r)) → length (many_spell (λ a. Punctuation m ∷ spell a) (map bare xs)) ≤ n → List (Known goes spell (r n))
  deep_parts n [] le = []
  deep_parts n (x ∷ xs) le =
      let sum = length-append (Punctuation m ∷ spell x.0) (many_spell (λ a. Punctuation m ∷ spell a) (map bare xs)) in
      (x.0, x.1 n (omega (arith, le, sum))) ∷ deep_parts n xs (omega (arith, le, sum))

  deep_parts-bare : (n : ℕ) (xs : List (Tree goes spell r)) (le : length (many_spell (λ a. Punctuation m ∷ spell a) (map bare xs)) ≤ n) → map (λ (s : Known goes spell (r n)). s.0) (deep_parts n xs le) ≡ map bare xs
  unfolding deep_parts
  deep_parts-bare n [] le = refl
  deep_parts-bare n (x ∷ xs) le = ap (λ (w : List A). x.0 ∷ w) (deep_parts-bare n xs _)

  pub parted_later : (x : Tree goes spell r) (xs : List (Tree goes spell r)) → Later (goes_or (is_mark m) goes) spell' (λ n. parted_with make m (r n)) (make x.0 (map bare xs))
  parted_later x xs n le =
      let parts = spells x.0 (map bare xs) in
      let sum = ap length parts ∙ length-append (spell x.0) (many_spell (λ a. Punctuation m ∷ spell a) (map bare xs)) in
      let rest_le : length (many_spell (λ a. Punctuation m ∷ spell a) (map bare xs)) ≤ n = omega (arith, le, sum) in
      subst (λ (l : List A). IsRead (goes_or (is_mark m) goes) spell' (parted_with make m (r n)) (make x.0 l)) (deep_parts-bare n xs rest_le)
      (parted_again goes m make spell spell' (r n) quiet spells (x.0, x.1 n (omega (arith, le, sum))) (deep_parts n xs rest_le))
