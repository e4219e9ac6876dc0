-- Other answers at some keys: which tasks are alike.
use Rattle.std.proofs.Common.{◌≡◌, ◌∙◌, ◌↔◌, ℕ, Bool, true, false, not, List, Option, refl, sym, ap, subst}
use Rattle.std.specs.List.{list_any}
use Rattle.std.specs.Option.{option_eq}
use Rattle.std.specs.Str.{bytes_eq}
use Rattle.idl_event.specs.Key.{key_eq}
use Rattle.idl_event.specs.contracts.asked.key.RootAnswerPartialEq.TheImpl.{ghosts}
use Rattle.idl_event.specs.declared.told.event.Event.{Event}
use Rattle.idl_event.specs.declared.asked.key.RootAnswer.{RootAnswer}
use Rattle.idl_event.specs.declared.asked.key.RootKey.{RootKey}
use Rattle.idl_memo.specs.Fresh.{is_alike, log_at}
use Rattle.idl_memo.specs.Kept.{HoldsOver, Kept}
use Rattle.idl_memo.specs.Query.{HoldsIn, is_logged}
use Rattle.idl_prep.specs.Root.{expanded, expansion}
use Rattle.idl_inputs.specs.Refiled.{AreCauses}
use Rattle.idl_project.specs.Tasks.{RootPlace, alike_root}
use Rattle.idl_inputs.proofs.CauseLemmas.{false-unless, holds-beside, stale-by}
use Rattle.idl_project.proofs.KeptLemmas.{answer_eq-derived}

-- when a task is alike, by the test of equality of the answers
pub class-of : ((here task : RootPlace) → is_alike bytes_eq (option_eq ghosts.eq) expansion here task ≡ true ↔ (here.0 ≡ task.0) × (log_at key_eq expansion here ≡ log_at key_eq expansion task))
    → (here task : RootPlace) → alike_root here task ≡ true ↔ (here.0 ≡ task.0) × (log_at key_eq expansion here ≡ log_at key_eq expansion task)
class-of class =
    subst
    (λ (e : RootAnswer → RootAnswer → Bool). (here task : RootPlace) → is_alike bytes_eq (option_eq e) expansion here task ≡ true ↔ (here.0 ≡ task.0) × (log_at key_eq expansion here ≡ log_at key_eq expansion task))
    answer_eq-derived class

module _ (answers : (text : List ℕ) (bank : RootKey → Option RootAnswer) → HoldsIn bank (expanded text bank).1)
    (again : (text : List ℕ) (bank other : RootKey → Option RootAnswer) → HoldsIn other (expanded text bank).1 → expanded text other ≡ expanded text bank)
    (old new : RootKey → Option RootAnswer) (causes : List RootKey) (are : AreCauses old new causes)
    (kept : Kept RootKey (Option RootAnswer) (List ℕ) (List Event)) (over : HoldsOver key_eq expansion old kept) where
  -- what the task asked
  asked-then : (b : Bool) → list_any (is_logged key_eq kept.log) causes ≡ b → list_any (is_logged key_eq (expanded kept.text old).1) causes ≡ b
  asked-then b is = ap (λ (p : List Event × List (RootKey × Option RootAnswer)). list_any (is_logged key_eq p.1) causes) (sym over) ∙ is

  same-run : list_any (is_logged key_eq kept.log) causes ≡ false → expanded kept.text new ≡ expanded kept.text old
  same-run none = again kept.text old new (holds-beside old new causes are (expanded kept.text old).1 (asked-then false none) (answers kept.text old))

  -- a result that asked for no cause is that of its text still
  pub over-beside : list_any (is_logged key_eq kept.log) causes ≡ false → HoldsOver key_eq expansion new kept
  over-beside none = over ∙ sym (same-run none)

  -- and its task is alike there just where it asked for none
  pub alike-unless : ((here task : RootPlace) → alike_root here task ≡ true ↔ (here.0 ≡ task.0) × (log_at key_eq expansion here ≡ log_at key_eq expansion task))
      → (b : Bool) → list_any (is_logged key_eq kept.log) causes ≡ b → alike_root (kept.text, new) (kept.text, old) ≡ not b
  alike-unless class false none = (class (kept.text, new) (kept.text, old)).1 (refl, ap (λ (p : List Event × List (RootKey × Option RootAnswer)). p.1) (same-run none))
  alike-unless class true there =
      false-unless (alike_root (kept.text, new) (kept.text, old))
      (λ alike. stale-by old new causes (expanded kept.text old).1 are.other (asked-then true there) (answers kept.text old)
      (subst (HoldsIn new) ((class (kept.text, new) (kept.text, old)).0 alike).1 (answers kept.text new)))
