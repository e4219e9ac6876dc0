-- The files that an include asks for and that aren't there.
use Rattle.std.proofs.Common.{◌≡◌, List, [], ◌∷◌, ◌++◌, Bool, true, false, Option, None, Some, flat_map, refl, sym, ap, subst, ◌∙◌}
use Rattle.std.specs.List.{All}
use Rattle.std.specs.Prelude.{if◌then◌else◌}
use Rattle.std.proofs.lemmas.List.Elements.{All-append, All-cons, All-head, All-nil, All-push, All-tail}
use Rattle.idl_memo.specs.Progress.{after_item, after_key, with_item}
use Rattle.idl_memo.specs.Query.{Done, Ask, Tell, HoldsIn, is_logged}
use Rattle.idl_event.specs.Items.{beginning, rules}
use Rattle.idl_event.specs.Key.{key_eq}
use Rattle.idl_event.specs.Expanding.{Expanding, Reached, reached}
use Rattle.idl_event.specs.declared.told.allowance.Allowance.{Allowance}
use Rattle.idl_event.specs.declared.told.event.Item.{Item}
use Rattle.idl_event.specs.declared.asked.key.RootAnswer.{RootAnswer}
use Rattle.idl_event.specs.declared.asked.key.RootKey.{RootKey}
use Rattle.idl_event.specs.declared.asked.key.RootKey.TheVariants as key
use Rattle.idl_prep.specs.Root.{absent_file, absent_files}

module _ (bank : RootKey → Option RootAnswer) where
  holds-key : (k : RootKey) (p : Reached) → HoldsIn bank p.log → HoldsIn bank (after_key key_eq bank k p).log
  holds-key k p holds = at p.left
    where
      noted-at : (t : Bool) → HoldsIn bank (if t then p.log else p.log ++ (k, bank k) ∷ [])
      noted-at true = holds
      noted-at false = All-push (λ e. e.1 ≡ bank e.0) p.log (k, bank k) holds refl

      at : (left : Option Allowance) → HoldsIn bank (elim left as (λ _. Reached) [ None ↦ p | Some some ↦ record p { log = if is_logged key_eq p.log k then p.log else p.log ++ (k, bank k) ∷ [] } ]).log
      at None = holds
      at (Some left) = noted-at (is_logged key_eq p.log k)

  log-item : (x : Item) (p : Reached) → (after_item rules x p).log ≡ p.log
  log-item x p = at p.left
    where
      spent : (rest : Option Allowance) → (with_item rules p x rest).log ≡ p.log
      spent None = refl
      spent (Some rest) = refl

      at : (left : Option Allowance) → (elim left as (λ _. Reached) [ None ↦ p | Some some ↦ with_item rules p x (rules.spend some x) ]).log ≡ p.log
      at None = refl
      at (Some left) = spent (rules.spend left x)

  -- each answer that is logged is the bank's
  holds-after : {A : Type 0} (query : Expanding A) (p : Reached) → HoldsIn bank p.log → HoldsIn bank (reached bank query p).log
  holds-after (Done a) p holds = holds
  holds-after (Ask k next) p holds = holds-after (next (bank k)) (after_key key_eq bank k p) (holds-key k p holds)
  holds-after (Tell x query) p holds = holds-after query (after_item rules x p) (subst (HoldsIn bank) (sym (log-item x p)) holds)

  absent-one : (entry : RootKey × Option RootAnswer) → entry.1 ≡ bank entry.0 → All (λ name. bank (key.File name) ≡ None) (absent_file entry)
  absent-one (key.Macro word, answer) is = All-nil (λ name. bank (key.File name) ≡ None)
  absent-one (key.File name, None) is = All-cons (λ name. bank (key.File name) ≡ None) name [] (sym is) (All-nil (λ name. bank (key.File name) ≡ None))
  absent-one (key.File name, Some answer) is = All-nil (λ name. bank (key.File name) ≡ None)
  absent-one (key.Search, answer) is = All-nil (λ name. bank (key.File name) ≡ None)

  absent-all-of : (log : List (RootKey × Option RootAnswer)) → HoldsIn bank log → All (λ name. bank (key.File name) ≡ None) (flat_map absent_file log)
  absent-all-of [] holds = All-nil (λ name. bank (key.File name) ≡ None)
  absent-all-of (e ∷ log) holds =
      All-append (λ name. bank (key.File name) ≡ None) (absent_file e) (flat_map absent_file log) (absent-one e (All-head (λ e. e.1 ≡ bank e.0) e log holds))
      (absent-all-of log (All-tail (λ e. e.1 ≡ bank e.0) e log holds))

  -- files that were asked for and aren't listed as there are absent
  pub absent-of : {A : Type 0} (query : Expanding A) (p : Reached) (log : List (RootKey × Option RootAnswer)) → p ≡ reached bank query (beginning []) → log ≡ p.log
      → All (λ name. bank (key.File name) ≡ None) (absent_files log)
  unfolding absent_files
  absent-of query p log came is =
      subst (λ l. All (λ name. bank (key.File name) ≡ None) (flat_map absent_file l)) (sym (is ∙ ap (λ (p : Reached). p.log) came))
      (absent-all-of (reached bank query (beginning [])).log (holds-after query (beginning []) (All-nil (λ e. e.1 ≡ bank e.0))))
