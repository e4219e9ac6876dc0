-- Weights that a text names, byte by byte.
use Rattle.std.proofs.Common.{◌≡◌, ◌∙◌, ◌+◌, ◌-◌, ◌<◌, ◌≤◌, ◌++◌, ◌∷◌, [], ℕ, Bool, List, None, Option, Some, ap, arith, drop, false, get_or, if◌then◌else◌, length, nat_eq, sym, take, true}
use Rattle.std.specs.Option.{option_and_then}
use Rattle.std.proofs.lemmas.List.{drop-append-le, drop-take, drop_all, drop_more, length-take-le, take_more}
use Rattle.idl_changes.specs.Chosen.{with_names, with_weight}
use Rattle.idl_changes.specs.declared.rows.Weights.{Weights}

-- a name that begins at one place, up to another
name-between : (text : List ℕ) (i start : ℕ) → start ≤ i → take (i - start) (drop start text) ≡ drop start (take i text)
name-between text i start low =
    let place : start + (i - start) ≡ i = omega (arith, low) in
    sym (drop-take start (i - start) text) ∙ ap (λ (n : ℕ). drop start (take n text)) place

module _ (text : List ℕ) (i start : ℕ) (weights : Weights) (all : Option Weights) (within : i < length text) (low : start ≤ i)
    (so_far : with_names (drop start (take i text)) (drop i text) weights ≡ all) where
  -- a comma ends a name
  at-comma : nat_eq (get_or text i 0) 44 ≡ true
      → all ≡ option_and_then (with_names [] (drop (i + 1) text)) (with_weight (take (i - start) (drop start text)) weights)
  at-comma comma =
      let begun = drop start (take i text) in
      sym so_far
      ∙ ap (λ (t : List ℕ). with_names begun t weights) (drop_more text i 0 within)
      ∙ ap (λ (b : Bool). if b then option_and_then (with_names [] (drop (i + 1) text)) (with_weight begun weights) else with_names (begun ++ get_or text i 0 ∷ []) (drop (i + 1) text) weights) comma
      ∙ ap (λ (name : List ℕ). option_and_then (with_names [] (drop (i + 1) text)) (with_weight name weights)) (sym (name-between text i start low))

  pub unnamed : nat_eq (get_or text i 0) 44 ≡ true → with_weight (take (i - start) (drop start text)) weights ≡ None → all ≡ None
  unnamed comma none = at-comma comma ∙ ap (option_and_then (with_names [] (drop (i + 1) text))) none

  pub named : (more : Weights) → nat_eq (get_or text i 0) 44 ≡ true → with_weight (take (i - start) (drop start text)) weights ≡ Some more
      → with_names (drop (i + 1) (take (i + 1) text)) (drop (i + 1) text) more ≡ all
  named more comma some =
      let few = length-take-le (i + 1) text in
      ap (λ (begun : List ℕ). with_names begun (drop (i + 1) text) more) (drop_all (i + 1) (take (i + 1) text) (omega (arith, few)))
      ∙ sym (at-comma comma ∙ ap (option_and_then (with_names [] (drop (i + 1) text))) some)

  -- another byte goes on with it
  pub going-on : nat_eq (get_or text i 0) 44 ≡ false → with_names (drop start (take (i + 1) text)) (drop (i + 1) text) weights ≡ all
  going-on other =
      let begun = drop start (take i text) in
      let count = length-take-le i text in
      ap (λ (t : List ℕ). with_names (drop start t) (drop (i + 1) text) weights) (take_more text i 0 within)
      ∙ ap (λ (name : List ℕ). with_names name (drop (i + 1) text) weights) (drop-append-le start (take i text) (get_or text i 0 ∷ []) (omega (arith, low, within, count)))
      ∙ sym (ap (λ (t : List ℕ). with_names begun t weights) (drop_more text i 0 within)
      ∙ ap (λ (b : Bool). if b then option_and_then (with_names [] (drop (i + 1) text)) (with_weight begun weights) else with_names (begun ++ get_or text i 0 ∷ []) (drop (i + 1) text) weights) other)
      ∙ so_far
