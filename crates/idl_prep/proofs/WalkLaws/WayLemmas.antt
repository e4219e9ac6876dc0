-- Where a root comes to by one query after another.
use Rattle.std.proofs.Common.{◌≡◌, Option, None, Some, refl, ap, sym, ◌∙◌}
use Rattle.std.specs.Option.{option_map}
use Rattle.idl_memo.proofs.ProgressLaws.{progress_after-over, progress_after-and_then}
use Rattle.idl_memo.specs.Query.{and_then, outcome}
use Rattle.idl_memo.proofs.QueryLaws.{outcome-and_then}
use Rattle.idl_event.specs.Items.{rules}
use Rattle.idl_event.specs.Key.{key_eq}
use Rattle.idl_event.specs.Expanding.{Expanding, Reached, arrival, arrived, reached}
use Rattle.idl_event.specs.declared.told.allowance.Allowance.{Allowance}
use Rattle.idl_event.specs.declared.asked.key.RootAnswer.{RootAnswer}
use Rattle.idl_event.specs.declared.asked.key.RootKey.{RootKey}

module _ (bank : RootKey → Option RootAnswer) where
  -- once a limit was passed nothing changes
  pub arrival-over : {A : Type 0} (query : Expanding A) (p : Reached) → p.left ≡ None → arrival bank query p ≡ (p, None)
  arrival-over query p over =
      ap (arrived (outcome query bank)) (progress_after-over rules key_eq bank query p over)
      ∙ ap (λ (o : Option Allowance). (p, option_map (λ _. outcome query bank) o)) over

  -- one query after another
  pub arrival-and_then : {A B : Type 0} (query : Expanding A) (f : A → Expanding B) (p : Reached)
      → arrival bank (and_then query f) p ≡ arrival bank (f (outcome query bank)) (reached bank query p)
  arrival-and_then query f p =
      ap (λ b. arrived b (reached bank (and_then query f) p)) (outcome-and_then query f bank)
      ∙ ap (arrived (outcome (f (outcome query bank)) bank)) (progress_after-and_then rules key_eq bank query f p)

  -- what is given is the outcome, unless a limit was passed, and then it doesn't matter
  given-outcome : {A B : Type 0} (f : A → Expanding B) (a b : A) (p : Reached) (left : Option Allowance) → p.left ≡ left
      → option_map (λ _. a) left ≡ option_map (λ _. b) left → arrival bank (f a) p ≡ arrival bank (f b) p
  given-outcome f a b p None over same = arrival-over (f a) p over ∙ sym (arrival-over (f b) p over)
  given-outcome f a b p (Some left) h same = ap (λ c. arrival bank (f c) p) (ap (λ o. elim o [ None ↦ a | Some c ↦ c ]) same)

  -- after a step that comes to where a query does, a next one comes to where the one after the other does
  pub arrival-then : {A B : Type 0} (query : Expanding A) (f : A → Expanding B) (a : A) (p p' : Reached) → arrived a p' ≡ arrival bank query p
      → arrival bank (f a) p' ≡ arrival bank (and_then query f) p
  arrival-then query f a p p' came =
      let r = reached bank query p in
      let at : p' ≡ r = ap (λ w. w.0) came in
      let same : option_map (λ _. a) r.left ≡ option_map (λ _. outcome query bank) r.left =
      ap (λ (x : Reached). option_map (λ _. a) x.left) (sym at) ∙ ap (λ w. w.1) came in
      ap (arrival bank (f a)) at ∙ given-outcome f a (outcome query bank) r r.left refl same ∙ sym (arrival-and_then query f p)
