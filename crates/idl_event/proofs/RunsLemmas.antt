-- Runs of tokens, end to end.
use Rattle.std.proofs.Common.{◌≡◌, ◌∙◌, ℕ, zero, suc, ◌+◌, ◌-◌, ◌<◌, ◌≤◌, Bool, true, false, leb, leb-true, leb-false, List, [], ◌∷◌, ◌++◌, append-nil, drop, get_or, length, length-append, length-drop, slice_get, take, refl, sym, ap, subst, arith}
use Rattle.std.proofs.Math.Seq.{drop-append_seam}
use Rattle.std.proofs.lemmas.Grind.{flat_map-append}
use Rattle.std.proofs.lemmas.List.{drop-append-le, drop-drop, drop_more, take-append-drop, take-take, take_all, take_more}
use Rattle.std.specs.List.{AllWithin}
use Rattle.std.specs.List.Sorted.{IsNonDecreasingBy}
use Rattle.idl_event.specs.Runs.{starts_of, tokens_of}
use Rattle.idl_lex.specs.tokens.Tokens.{Token}

-- one more run
pub tokens_of-push : (runs : List (List Token)) (run : List Token) → tokens_of (runs ++ run ∷ []) ≡ tokens_of runs ++ run
tokens_of-push runs run = flat_map-append (λ run. run) runs (run ∷ []) ∙ ap (λ ts. tokens_of runs ++ ts) (append-nil run)

-- one more run, where no token is behind them
pub tokens_of-more : (all : List Token) (runs more : List (List Token)) (run open_end : List Token) → tokens_of runs ++ open_end ≡ all → open_end ≡ [] → more ≡ runs ++ run ∷ []
    → tokens_of more ++ open_end ≡ all ++ run
tokens_of-more all runs more run open_end is none pushed =
    let alone : tokens_of runs ≡ all = sym (ap (λ ts. tokens_of runs ++ ts) none ∙ append-nil (tokens_of runs)) ∙ is in
    ap (λ rs. tokens_of rs ++ open_end) pushed
    ∙ ap (λ ts. ts ++ open_end) (tokens_of-push runs run)
    ∙ ap (λ ts. (tokens_of runs ++ run) ++ ts) none
    ∙ append-nil (tokens_of runs ++ run)
    ∙ ap (λ ts. ts ++ run) alone

pub starts_of-push : (n : ℕ) (runs : List (List Token)) (run : List Token) → starts_of n (runs ++ run ∷ []) ≡ starts_of n runs ++ (n + length (tokens_of runs)) ∷ []
starts_of-push n [] run = let e : n ≡ n + 0 = omega arith in ap (λ k. k ∷ []) e
starts_of-push n (r ∷ runs) run =
    let e : n + length r + length (tokens_of runs) ≡ n + length (r ++ tokens_of runs) = omega (arith, length-append r (tokens_of runs)) in
    ap (λ ks. n ∷ ks) (starts_of-push (n + length r) runs run ∙ ap (λ k. starts_of (n + length r) runs ++ k ∷ []) e)

pub length-starts : (n : ℕ) (runs : List (List Token)) → length (starts_of n runs) ≡ length runs
length-starts n [] = refl
length-starts n (run ∷ runs) = ap suc (length-starts (n + length run) runs)

-- how many tokens are before a run
pub starts_at : (n : ℕ) (runs : List (List Token)) (place d : ℕ) → place < length runs → get_or (starts_of n runs) place d ≡ n + length (tokens_of (take place runs))
starts_at n [] place d lt = absurd (omega (arith, lt))
starts_at n (run ∷ runs) zero d lt = let e : n ≡ n + 0 = omega arith in e
starts_at n (run ∷ runs) (suc place) d lt =
    let e : n + length run + length (tokens_of (take place runs)) ≡ n + length (run ++ tokens_of (take place runs)) = omega (arith, length-append run (tokens_of (take place runs))) in
    starts_at (n + length run) runs place d (omega (arith, lt)) ∙ e

-- the tokens before a run, in it, and behind it
tokens_of-parts : (runs : List (List Token)) (place : ℕ) (d : List Token) → place < length runs
    → tokens_of runs ≡ tokens_of (take place runs) ++ (get_or runs place d ++ tokens_of (drop (place + 1) runs))
tokens_of-parts runs place d lt =
    ap tokens_of (sym (take-append-drop place runs))
    ∙ flat_map-append (λ run. run) (take place runs) (drop place runs)
    ∙ ap (λ rs. tokens_of (take place runs) ++ tokens_of rs) (drop_more runs place d lt)

pub run-end : (runs : List (List Token)) (place : ℕ) (d : List Token) → place < length runs
    → length (tokens_of (take (place + 1) runs)) ≡ length (tokens_of (take place runs)) + length (get_or runs place d)
run-end runs place d lt =
    let front = take place runs in
    let run = get_or runs place d in
    ap (λ rs. length (tokens_of rs)) (take_more runs place d lt)
    ∙ ap length (tokens_of-push front run)
    ∙ length-append (tokens_of front) run

-- Tokens from one on that is in a run: what is left of the run, and then the other runs.
pub run-from : (runs : List (List Token)) (place index : ℕ) (d : List Token) → place < length runs → length (tokens_of (take place runs)) ≤ index
    → index - length (tokens_of (take place runs)) < length (get_or runs place d)
    → drop index (tokens_of runs) ≡ drop (index - length (tokens_of (take place runs))) (get_or runs place d) ++ tokens_of (drop (place + 1) runs)
run-from runs place index d lt le inside =
    let front = tokens_of (take place runs) in
    let run = get_or runs place d in
    let later = tokens_of (drop (place + 1) runs) in
    let k = index - length front in
    let e : index ≡ length front + k = omega (arith, le) in
    ap (drop index) (tokens_of-parts runs place d lt)
    ∙ ap (λ n. drop n (front ++ (run ++ later))) e
    ∙ sym (drop-drop k (length front) (front ++ (run ++ later)))
    ∙ ap (drop k) (drop-append_seam front (run ++ later))
    ∙ drop-append-le k run later (omega (arith, inside))

-- The run of a token: the last that begins at it or before it.
pub record IsRunAt (runs : List (List Token)) (index count : ℕ) (d : List Token) : Type 0 where
  pub some : 0 < count
  pub within : count - 1 < length runs
  pub begins : length (tokens_of (take (count - 1) runs)) ≤ index
  pub inside : index - length (tokens_of (take (count - 1) runs)) < length (get_or runs (count - 1) d)

pub IsRunAt-point : (runs : List (List Token)) (index count : ℕ) (d : List Token) → index < length (tokens_of runs) → count ≤ length runs
    → AllWithin (λ s. leb s index ≡ true) (starts_of 0 runs) 0 count → AllWithin (λ s. leb s index ≡ false) (starts_of 0 runs) count (length (starts_of 0 runs))
    → IsRunAt runs index count d
IsRunAt-point [] index count d here le before behind = absurd (omega (arith, here))
IsRunAt-point (run ∷ runs) index zero d here le before behind =
    let none = leb-false 0 index (behind 0 0 (omega arith) (omega arith)) in
    absurd (omega (arith, none))
IsRunAt-point (run ∷ runs) index (suc k) d here le before behind =
    let all = run ∷ runs in
    let e : suc k - 1 ≡ k = omega arith in
    let lt : k < length all = omega (arith, le) in
    let start = starts_at 0 all k 0 lt in
    let first = leb-true (get_or (starts_of 0 all) k 0) index (before k 0 (omega arith) (omega arith)) in
    let begins : length (tokens_of (take k all)) ≤ index = omega (arith, start, first) in
    let end : index < length (tokens_of (take (k + 1) all)) = by (leb (length all) (k + 1)) refl in
    record {
      some = omega arith;
      within = omega (arith, lt);
      begins = subst (λ n. length (tokens_of (take n all)) ≤ index) (sym e) begins;
      inside = subst (λ n. index - length (tokens_of (take n all)) < length (get_or all n d)) (sym e) (omega (arith, end, begins, run-end all k d lt));
    }
  where
    by : (b : Bool) → leb (length (run ∷ runs)) (k + 1) ≡ b → index < length (tokens_of (take (k + 1) (run ∷ runs)))
    by true last = omega (arith, here, ap (λ rs. length (tokens_of rs)) (take_all (k + 1) (run ∷ runs) (leb-true (length (run ∷ runs)) (k + 1) last)))
    by false more =
        let lt : k + 1 < length (run ∷ runs) = leb-false (length (run ∷ runs)) (k + 1) more in
        let next = leb-false (get_or (starts_of 0 (run ∷ runs)) (k + 1) 0) index (behind (k + 1) 0 (omega arith) (omega (arith, lt, length-starts 0 (run ∷ runs)))) in
        omega (arith, next, starts_at 0 (run ∷ runs) (k + 1) 0 lt)

-- the first runs have no more tokens than more of them
first-le : (runs : List (List Token)) (k : ℕ) → length (tokens_of (take k runs)) ≤ length (tokens_of runs)
first-le runs k =
    let parts : tokens_of runs ≡ tokens_of (take k runs) ++ tokens_of (drop k runs) =
    ap tokens_of (sym (take-append-drop k runs)) ∙ flat_map-append (λ run. run) (take k runs) (drop k runs) in
    omega (arith, ap length parts, length-append (tokens_of (take k runs)) (tokens_of (drop k runs)))

-- the starts of runs don't fall
pub starts-rise : (runs : List (List Token)) → IsNonDecreasingBy (λ (s : ℕ). s) (starts_of 0 runs)
starts-rise runs = λ i j d le lt.
    let high : j < length runs = omega (arith, lt, length-starts 0 runs) in
    let low : i < length runs = omega (arith, le, high) in
    omega (
      arith,
      starts_at 0 runs i d low,
      starts_at 0 runs j d high,
      first-le (take j runs) i,
      ap (λ rs. length (tokens_of rs)) (take-take i j runs le),
    )

get-behind : (tokens : List Token) (i : ℕ) → slice_get tokens i ≡ slice_get (drop i tokens) 0
get-behind [] zero = refl
get-behind [] (suc i) = refl
get-behind (t ∷ tokens) zero = refl
get-behind (t ∷ tokens) (suc i) = get-behind tokens i

get-first : (tokens more : List Token) → 0 < length tokens → slice_get (tokens ++ more) 0 ≡ slice_get tokens 0
get-first [] more some = absurd (omega (arith, some))
get-first (t ∷ tokens) more some = refl

-- a token is the one at its place in its run
pub read-behind : (all run later : List Token) (index place : ℕ) → place < length run → drop index all ≡ drop place run ++ later → slice_get all index ≡ slice_get run place
read-behind all run later index place lt is =
    get-behind all index
    ∙ ap (λ ts. slice_get ts 0) is
    ∙ get-first (drop place run) later (omega (arith, lt, length-drop place run))
    ∙ sym (get-behind run place)
