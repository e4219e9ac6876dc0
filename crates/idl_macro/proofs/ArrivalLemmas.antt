-- Where one comes to with queries, one after another.
use Rattle.std.proofs.Common.{◌≡◌, ◌≢◌, Option, None, Some, refl, ap, sym, ◌∙◌}
use Rattle.std.specs.Option.{option_map}
use Rattle.idl_memo.proofs.ProgressLaws.{progress_after-and_then, progress_after-over}
use Rattle.idl_memo.specs.Query.{and_then, outcome}
use Rattle.idl_memo.proofs.QueryLaws.{outcome-and_then}
use Rattle.idl_event.specs.Expanding.{Expanding, Reached, arrival, arrived, reached}
use Rattle.idl_event.specs.Items.{rules}
use Rattle.idl_event.specs.Key.{key_eq}
use Rattle.idl_event.specs.declared.told.allowance.Allowance.{Allowance}
use Rattle.idl_event.specs.declared.asked.key.RootAnswer.{RootAnswer}
use Rattle.idl_event.specs.declared.asked.key.RootKey.{RootKey}

module _ {A : Type 0} where
  outcome_of : (a b : A) (left other : Option Allowance) → option_map (λ _. a) left ≡ option_map (λ _. b) other → left ≢ None → a ≡ b
  outcome_of a b None other h some = absurd (some refl)
  outcome_of a b (Some left) None h some = cc
  outcome_of a b (Some left) (Some other) h some = cc

  -- what came of it is the same, where no limit was passed
  pub arrived-outcome : (a b : A) (p q : Reached) → arrived a p ≡ arrived b q → p.left ≢ None → a ≡ b
  arrived-outcome a b p q h going = outcome_of a b p.left q.left (ap (λ (r : Reached × Option A). r.1) h) going

  -- once a limit was passed it doesn't matter what came of it
  pub arrived-over : (a b : A) (p : Reached) → p.left ≡ None → arrived a p ≡ arrived b p
  arrived-over a b p over = ap (λ o. (p, option_map (λ _. a) o)) over ∙ sym (ap (λ o. (p, option_map (λ _. b) o)) over)

module _ {A B : Type 0} (bank : RootKey → Option RootAnswer) (query : Expanding A) (f : A → Expanding B) (a : A) (p q : Reached) (h : arrived a q ≡ arrival bank query p) where
  at_start : arrival bank (f (outcome query bank)) (reached bank query p) ≡ arrival bank (and_then query f) p
  at_start = sym (λ i. arrived (outcome-and_then query f bank i) (progress_after-and_then rules key_eq bank query f p i))

  by_left : (left : Option Allowance) → q.left ≡ left → arrival bank (f a) q ≡ arrival bank (f (outcome query bank)) q
  by_left None over =
      ap (arrived (outcome (f a) bank)) (progress_after-over rules key_eq bank (f a) q over)
      ∙ arrived-over (outcome (f a) bank) (outcome (f (outcome query bank)) bank) q over
      ∙ sym (ap (arrived (outcome (f (outcome query bank)) bank)) (progress_after-over rules key_eq bank (f (outcome query bank)) q over))
  by_left (Some left) going =
      let same = arrived-outcome a (outcome query bank) q (reached bank query p) h (λ over. let no = sym going ∙ over in cc) in
      ap (λ x. arrival bank (f x) q) same

  -- what follows a query, from where one came to with it
  pub arrival-and_then : arrival bank (f a) q ≡ arrival bank (and_then query f) p
  arrival-and_then = by_left q.left refl ∙ ap (arrival bank (f (outcome query bank))) (ap (λ (r : Reached × Option A). r.0) h) ∙ at_start
