-- A loop over items: what it has read and what it is to read are what reading gives.
use Rattle.std.proofs.Common.{◌≡◌, ℕ, zero, suc, ◌<◌, ◌-◌, Bool, true, false, List, [], ◌∷◌, ◌++◌, length, drop, Option, Some, None, is_some, Result, Ok, Err, refl, sym, ap, subst, ◌∙◌, append_assoc, append-nil, arith, slice_range, length-drop}
use Rattle.std.proofs.lemmas.List.{length-map, take_all}
use Rattle.idl_lex.specs.declared.kinds.mark.Mark.{Mark}
use Rattle.idl_syntax.specs.declared.fault.ReadingFault.{ReadingFault}
use Rattle.idl_syntax.specs.declared.fault.ReadingFault.TheVariants as fault
use Rattle.idl_syntax.specs.Gives.{Fails}
use Rattle.idl_tree.specs.Lexeme.{Lexeme, lexeme_of, lexemes}
use Rattle.idl_tree.specs.reading.ReadExpression.{behind_with, step_with}
use Rattle.idl_tree.specs.reading.Reading.{Reader, ◌>>=◌, first, many_at, many_of}
use Rattle.idl_tree.specs.reading.Tests.{is_mark, pick}

-- what was read, before what is read
abbrev pub with_front : {A : Type 0} → List A → Result (List A × List Lexeme) ℕ → Result (List A × List Lexeme) ℕ
with_front front read = read >>= λ x. Ok (front ++ x.0, x.1)

pub record Turns {A : Type 0} (p : Option Lexeme → Bool) (item : Reader A) (front : List A) (ts : List Lexeme) (total : Result (List A × List Lexeme) ℕ) : Type 0 where
  pub fuel : ℕ
  pub long : length ts < fuel
  pub so_far : with_front front (many_at p item fuel ts) ≡ total

no_front : {A : Type 0} (read : Result (List A × List Lexeme) ℕ) → with_front [] read ≡ read
no_front (Ok x) = refl
no_front (Err e) = refl

regroup : {A : Type 0} (front : List A) (x : A) (read : Result (List A × List Lexeme) ℕ) → with_front front (read >>= λ y. Ok (x ∷ y.0, y.1)) ≡ with_front (front ++ x ∷ []) read
regroup {A} front x (Ok y) = ap (λ (xs : List A). Ok (xs, y.1)) (sym (append_assoc front (x ∷ []) y.0))
regroup front x (Err e) = refl

pub turns_start : {A : Type 0} (p : Option Lexeme → Bool) (item : Reader A) (front : List A) (ts : List Lexeme) → front ≡ [] → Turns p item front ts (many_of p item ts)
turns_start {A} p item front ts e = record { fuel = suc (length ts); long = omega arith; so_far = ap (λ (f : List A). with_front f (many_of p item ts)) e ∙ no_front (many_of p item ts) }

turns_step : {A : Type 0} (p : Option Lexeme → Bool) (item : Reader A) (front : List A) (ts : List Lexeme) (total : Result (List A × List Lexeme) ℕ) (x : A) (after : List Lexeme) (front' : List A)
    → Turns p item front ts total → p (first ts) ≡ true → item ts ≡ Ok (x, after) → length after < length ts → front' ≡ front ++ x ∷ [] → Turns p item front' after total
turns_step {A} p item front ts total x after front' t h e shorter front-is = subst (λ (f : List A). Turns p item f after total) (sym front-is) (step t.fuel t.long t.so_far)
  where
    step : (k : ℕ) → length ts < k → with_front front (many_at p item k ts) ≡ total → Turns p item (front ++ x ∷ []) after total
    step zero long so_far = absurd (omega (arith, long))
    step (suc k) long so_far =
        let one : many_at p item (suc k) ts ≡ (many_at p item k after >>= λ y. Ok (x ∷ y.0, y.1)) = rw (h, e) refl in
        record { fuel = k; long = omega (arith, long, shorter); so_far = sym (regroup front x (many_at p item k after)) ∙ ap (with_front front) (sym one) ∙ so_far }

pub turns_stop : {A : Type 0} (p : Option Lexeme → Bool) (item : Reader A) (front : List A) (ts : List Lexeme) (total : Result (List A × List Lexeme) ℕ)
    → Turns p item front ts total → p (first ts) ≡ false → total ≡ Ok (front, ts)
turns_stop {A} p item front ts total t h = stop t.fuel t.long t.so_far
  where
    stop : (k : ℕ) → length ts < k → with_front front (many_at p item k ts) ≡ total → total ≡ Ok (front, ts)
    stop zero long so_far = absurd (omega (arith, long))
    stop (suc k) long so_far =
        let one : many_at p item (suc k) ts ≡ Ok ([], ts) = rw h refl in
        sym so_far ∙ ap (with_front front) one ∙ ap (λ (xs : List A). Ok (xs, ts)) (append-nil front)

pub turns_fail : {A : Type 0} (p : Option Lexeme → Bool) (item : Reader A) (front : List A) (ts : List Lexeme) (total : Result (List A × List Lexeme) ℕ) (e : ReadingFault)
    → Turns p item front ts total → p (first ts) ≡ true → Fails e (item ts) → Fails e total
turns_fail p item front ts total fault.Memory t h f = tt
turns_fail p item front ts total (fault.NoTree l) t h f = fail t.fuel t.long t.so_far
  where
    fail : (k : ℕ) → length ts < k → with_front front (many_at p item k ts) ≡ total → total ≡ Err l
    fail zero long so_far = absurd (omega (arith, long))
    fail (suc k) long so_far =
        let one : many_at p item (suc k) ts ≡ Err l = rw (h, f) refl in
        sym so_far ∙ ap (with_front front) one

-- the same over the tokens of the code
pub loop_step : {A : Type 0} (p : Option Lexeme → Bool) (item : Reader A) (items items' : List A) (rest after : List (List ℕ)) (total : Result (List A × List Lexeme) ℕ) (x : A)
    → Turns p item items (lexemes rest) total → p (first (lexemes rest)) ≡ true → item (lexemes rest) ≡ Ok (x, lexemes after) → length after < length rest → items' ≡ items ++ x ∷ []
    → Turns p item items' (lexemes after) total
loop_step {A} p item items items' rest after total x t h e shorter items-is =
    turns_step p item items (lexemes rest) total x (lexemes after) items' t h e
    (omega (arith, shorter, length-map after lexeme_of, length-map rest lexeme_of)) items-is

-- an item behind a mark
behind_mark : {A : Type 0} (m : Mark) (item : Reader A) (rest : List (List ℕ)) → is_mark m (first (lexemes rest)) ≡ true → behind_with m item (lexemes rest) ≡ item (lexemes (drop 1 rest))
unfolding behind_with
behind_mark m item [] h = absurd cc
behind_mark m item (t ∷ rest) h = rw h refl

pub rest_is : (rest : List (List ℕ)) → slice_range rest 1 (length rest) ≡ drop 1 rest
rest_is rest = take_all (length rest - 1) (drop 1 rest) (omega (arith, length-drop 1 rest))

shorter_rest : (rest after : List (List ℕ)) → length after < length (drop 1 rest) → length after < length rest
shorter_rest [] after l = l
shorter_rest (t ∷ rest) after l = omega (arith, l)

pub loop_behind : {A : Type 0} (m : Mark) (item : Reader A) (items items' : List A) (rest after : List (List ℕ)) (total : Result (List A × List Lexeme) ℕ) (x : A)
    → Turns (is_mark m) (behind_with m item) items (lexemes rest) total → is_mark m (first (lexemes rest)) ≡ true → item (lexemes (slice_range rest 1 (length rest))) ≡ Ok (x, lexemes after)
    → length after < length (slice_range rest 1 (length rest)) → items' ≡ items ++ x ∷ [] → Turns (is_mark m) (behind_with m item) items' (lexemes after) total
loop_behind {A} m item items items' rest after total x t h e shorter items-is =
    let read : item (lexemes (drop 1 rest)) ≡ Ok (x, lexemes after) = ap (λ (ts : List (List ℕ)). item (lexemes ts)) (sym (rest_is rest)) ∙ e in
    let less : length after < length (drop 1 rest) = subst (λ (ts : List (List ℕ)). length after < length ts) (rest_is rest) shorter in
    loop_step (is_mark m) (behind_with m item) items items' rest after total x t h (behind_mark m item rest h ∙ read) (shorter_rest rest after less) items-is

pub loop_behind_fails : {A : Type 0} (m : Mark) (item : Reader A) (items : List A) (rest : List (List ℕ)) (total : Result (List A × List Lexeme) ℕ) (why : ReadingFault)
    → Turns (is_mark m) (behind_with m item) items (lexemes rest) total → is_mark m (first (lexemes rest)) ≡ true → Fails why (item (lexemes (slice_range rest 1 (length rest)))) → Fails why total
loop_behind_fails m item items rest total why t h f =
    let read : Fails why (item (lexemes (drop 1 rest))) = subst (λ (ts : List (List ℕ)). Fails why (item (lexemes ts))) (rest_is rest) f in
    turns_fail (is_mark m) (behind_with m item) items (lexemes rest) total why t h (subst (Fails why) (sym (behind_mark m item rest h)) read)

-- items that are a token each
pub loop_pick : {A : Type 0} (f : Option Lexeme → Option A) (items items' : List A) (rest : List (List ℕ)) (total : Result (List A × List Lexeme) ℕ) (x : A)
    → f None ≡ None → Turns (λ t. is_some (f t)) (pick f) items (lexemes rest) total → f (first (lexemes rest)) ≡ Some x → items' ≡ items ++ x ∷ []
    → Turns (λ t. is_some (f t)) (pick f) items' (lexemes (slice_range rest 1 (length rest))) total
loop_pick f items items' [] total x nothing t h items-is = absurd cc
loop_pick {A} f items items' (token ∷ rest) total x nothing t h items-is =
    let test : is_some (f (first (lexemes (token ∷ rest)))) ≡ true = rw h refl in
    let one : pick f (lexemes (token ∷ rest)) ≡ Ok (x, lexemes rest) = rw h refl in
    let same : slice_range (token ∷ rest) 1 (length (token ∷ rest)) ≡ rest = rest_is (token ∷ rest) in
    subst (λ (ts : List (List ℕ)). Turns (λ t. is_some (f t)) (pick f) items' (lexemes ts) total) (sym same)
    (loop_step (λ t. is_some (f t)) (pick f) items items' (token ∷ rest) rest total x t test one (omega arith) items-is)

pub loop_pick_ends : {A : Type 0} (f : Option Lexeme → Option A) (items : List A) (rest : List (List ℕ)) (total : Result (List A × List Lexeme) ℕ)
    → Turns (λ t. is_some (f t)) (pick f) items (lexemes rest) total → f (first (lexemes rest)) ≡ None → total ≡ Ok (items, lexemes rest)
loop_pick_ends f items rest total t h = turns_stop (λ t. is_some (f t)) (pick f) items (lexemes rest) total t (rw h refl)

-- operators with operands
abbrev with_operator : {O A : Type 0} → O → A × List Lexeme → Result ((O × A) × List Lexeme) ℕ
with_operator o x = Ok ((o, x.0), x.1)

operator_step : {O A : Type 0} (operator : Option Lexeme → Option O) (operand : Reader A) (o : O) (token : List ℕ) (rest : List (List ℕ)) → operator (first (lexemes (token ∷ rest))) ≡ Some o
    → step_with operator operand (lexemes (token ∷ rest)) ≡ (operand (lexemes (slice_range (token ∷ rest) 1 (length (token ∷ rest)))) >>= λ x. Ok ((o, x.0), x.1))
unfolding step_with
operator_step {O} {A} operator operand o token rest h = rw h (ap (λ (ts : List (List ℕ)). operand (lexemes ts) >>= with_operator o) (sym (rest_is (token ∷ rest))))

pub loop_operator : {O A : Type 0} (operator : Option Lexeme → Option O) (operand : Reader A) (items items' : List (O × A)) (rest after : List (List ℕ)) (total : Result (List (O × A) × List Lexeme) ℕ) (o : O) (x : A)
    → operator None ≡ None → Turns (λ t. is_some (operator t)) (step_with operator operand) items (lexemes rest) total → operator (first (lexemes rest)) ≡ Some o
    → operand (lexemes (slice_range rest 1 (length rest))) ≡ Ok (x, lexemes after) → length after < length (slice_range rest 1 (length rest)) → items' ≡ items ++ (o, x) ∷ []
    → Turns (λ t. is_some (operator t)) (step_with operator operand) items' (lexemes after) total
loop_operator operator operand items items' [] after total o x nothing t h e shorter items-is = absurd cc
loop_operator operator operand items items' (token ∷ rest) after total o x nothing t h e shorter items-is =
    let test : is_some (operator (first (lexemes (token ∷ rest)))) ≡ true = rw h refl in
    let one : step_with operator operand (lexemes (token ∷ rest)) ≡ Ok ((o, x), lexemes after) = operator_step operator operand o token rest h ∙ rw e refl in
    let less : length after < length (drop 1 (token ∷ rest)) = subst (λ (ts : List (List ℕ)). length after < length ts) (rest_is (token ∷ rest)) shorter in
    loop_step (λ t. is_some (operator t)) (step_with operator operand) items items' (token ∷ rest) after total (o, x) t test one (shorter_rest (token ∷ rest) after less) items-is

step_fails : {O A : Type 0} (o : O) (why : ReadingFault) (read : Result (A × List Lexeme) ℕ) → Fails why read → Fails why (read >>= with_operator o)
step_fails o fault.Memory read f = tt
step_fails o (fault.NoTree left) read f = rw f refl

pub loop_operator_fails : {O A : Type 0} (operator : Option Lexeme → Option O) (operand : Reader A) (items : List (O × A)) (rest : List (List ℕ)) (total : Result (List (O × A) × List Lexeme) ℕ) (o : O) (why : ReadingFault)
    → operator None ≡ None → Turns (λ t. is_some (operator t)) (step_with operator operand) items (lexemes rest) total → operator (first (lexemes rest)) ≡ Some o
    → Fails why (operand (lexemes (slice_range rest 1 (length rest)))) → Fails why total
loop_operator_fails operator operand items [] total o why nothing t h f = absurd cc
loop_operator_fails {O} {A} operator operand items (token ∷ rest) total o why nothing t h f =
    let test : is_some (operator (first (lexemes (token ∷ rest)))) ≡ true = rw h refl in
    let read : Fails why (step_with operator operand (lexemes (token ∷ rest))) =
    subst (Fails why) (sym (operator_step operator operand o token rest h)) (step_fails o why (operand (lexemes (slice_range (token ∷ rest) 1 (length (token ∷ rest))))) f) in
    turns_fail (λ t. is_some (operator t)) (step_with operator operand) items (lexemes (token ∷ rest)) total why t test read

pub loop_operator_ends : {O A : Type 0} (operator : Option Lexeme → Option O) (operand : Reader A) (items : List (O × A)) (rest : List (List ℕ)) (total : Result (List (O × A) × List Lexeme) ℕ)
    → Turns (λ t. is_some (operator t)) (step_with operator operand) items (lexemes rest) total → operator (first (lexemes rest)) ≡ None → total ≡ Ok (items, lexemes rest)
loop_operator_ends operator operand items rest total t h = turns_stop (λ t. is_some (operator t)) (step_with operator operand) items (lexemes rest) total t (rw h refl)
