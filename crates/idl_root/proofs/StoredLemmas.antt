-- Lists of results and drafts: what stands in them, and what comes of more at the end of the last draft.
use Rattle.std.proofs.Common.{◌≡◌, ◌≢◌, ℕ, zero, suc, ◌+◌, List, [], ◌∷◌, ◌++◌, Some, refl, ap, sym, ◌∙◌, arith, append-nil, append_assoc, drop, flat_map}
use Rattle.std.specs.Prelude.{Contains, slice_get}
use Rattle.std.proofs.lemmas.Grind.{flat_map-append}
use Rattle.std.proofs.lemmas.List.Elements.{Contains-append_left, Contains-append_right}
use Rattle.std.proofs.lemmas.Option.{same_Some}
use Rattle.idl_env.proofs.AnswerLaws.PlaceLemmas.{drop-at1}
use Rattle.idl_memo.specs.Fresh.{Place}
use Rattle.idl_memo.specs.Kept.{IsAlike, Kept, SomeAlikeAt}
use Rattle.idl_store.specs.Stored.{Stored, begun, grown, item_at, list_at, result_at, results_in, results_of_drafts, with_draft, with_results}
use Rattle.idl_root.specs.Results.{HasDraft}

module _ {X : Type 0} where
  -- what stands at a place is among the items
  at-contains : (xs : List X) (i : ℕ) (x : X) → slice_get xs i ≡ Some x → Contains xs x
  at-contains [] i x h = cc
  at-contains (y ∷ ys) zero x h = (0, omega arith, same_Some y x h)
  at-contains (y ∷ ys) (suc i) x h = let r = at-contains ys i x h in (suc r.0, omega (arith, r.1), r.2)

  item-contains : (lists : List (List X)) (list place : ℕ) (x : X) → item_at lists list place ≡ Some x → Contains (flat_map (λ items. items) lists) x
  item-contains [] list place x h = cc
  item-contains (items ∷ lists) zero place x h = Contains-append_left items (flat_map (λ items. items) lists) x (at-contains items place x h)
  item-contains (items ∷ lists) (suc list) place x h = Contains-append_right items (flat_map (λ items. items) lists) x (item-contains lists list place x h)

  result-contains : (s : Stored X) (list place : ℕ) (x : X) → result_at s list place ≡ Some x → Contains (results_in s) x
  result-contains s list place x h = Contains-append_left (flat_map (λ items. items) s.lists) (results_of_drafts s.drafts) x (item-contains s.lists list place x h)

  -- in the list at its place
  pub item-list : (lists : List (List X)) (list place : ℕ) (x : X) → item_at lists list place ≡ Some x → slice_get (list_at lists list) place ≡ Some x
  item-list [] list place x h = cc
  item-list (items ∷ lists) zero place x h = h
  item-list (items ∷ lists) (suc list) place x h = item-list lists list place x h

  pub item-drop : (lists : List (List X)) (list place : ℕ) (x : X) → item_at lists list place ≡ Some x → drop place (list_at lists list) ≡ x ∷ drop (place + 1) (list_at lists list)
  item-drop lists list place x h = drop-at1 (list_at lists list) place x (item-list lists list place x h)

  -- what stands in the list at its place is among its items
  pub list-contains : (lists : List (List X)) (list place : ℕ) (x : X) → item_at lists list place ≡ Some x → Contains (list_at lists list) x
  list-contains lists list place x h = at-contains (list_at lists list) place x (item-list lists list place x h)

  -- no results more
  none-more : (drafts : List (ℕ × List X)) → with_results drafts [] ≡ drafts
  none-more [] = refl
  none-more (d ∷ []) = ap (λ r. (d.0, r) ∷ []) (append-nil d.1)
  none-more (d ∷ e ∷ drafts) = ap (λ l. d ∷ l) (none-more (e ∷ drafts))

  pub grown-none : (s : Stored X) → grown s [] ≡ s
  grown-none s = λ i. record { lists = s.lists; drafts = none-more s.drafts i }

  -- some, and then others
  some-more : (drafts : List (ℕ × List X)) (a b : List X) → with_results (with_results drafts a) b ≡ with_results drafts (a ++ b)
  some-more [] a b = refl
  some-more (d ∷ []) a b = ap (λ r. (d.0, r) ∷ []) (append_assoc d.1 a b)
  some-more (d ∷ e ∷ []) a b = ap (λ l. d ∷ l) (some-more (e ∷ []) a b)
  some-more (d ∷ e ∷ f ∷ drafts) a b = ap (λ l. d ∷ l) (some-more (e ∷ f ∷ drafts) a b)

  pub grown-grown : (s : Stored X) (a b : List X) → grown (grown s a) b ≡ grown s (a ++ b)
  grown-grown s a b = λ i. record { lists = s.lists; drafts = some-more s.drafts a b i }

  -- there is a draft still
  still-some : (drafts : List (ℕ × List X)) (a : List X) → drafts ≢ [] → with_results drafts a ≢ []
  still-some [] a has = λ h. has refl
  still-some (d ∷ []) a has = λ h. cc
  still-some (d ∷ e ∷ drafts) a has = λ h. cc

  pub has-grown : (s : Stored X) (a : List X) → HasDraft s → HasDraft (grown s a)
  has-grown s a has = still-some s.drafts a has

  push-some : (drafts : List (ℕ × List X)) (d : ℕ × List X) → drafts ++ d ∷ [] ≢ []
  push-some [] d = λ h. cc
  push-some (e ∷ drafts) d = λ h. cc

  pub has-begun : (s : Stored X) (at : ℕ) → HasDraft (begun s at)
  has-begun s at = push-some s.drafts (at, [])

  -- the results of a store with more
  results-more : (drafts : List (ℕ × List X)) (a : List X) → drafts ≢ [] → results_of_drafts (with_results drafts a) ≡ results_of_drafts drafts ++ a
  results-more [] a has = absurd (has refl)
  results-more (d ∷ []) a has = append-nil (d.1 ++ a) ∙ ap (λ l. l ++ a) (sym (append-nil d.1))
  results-more (d ∷ e ∷ drafts) a has =
      ap (λ l. d.1 ++ l) (results-more (e ∷ drafts) a (λ h. cc)) ∙ sym (append_assoc d.1 (results_of_drafts (e ∷ drafts)) a)

  pub grown-results : (s : Stored X) (a : List X) → HasDraft s → results_in (grown s a) ≡ results_in s ++ a
  grown-results s a has =
      let lists = flat_map (λ items. items) s.lists in
      ap (λ l. lists ++ l) (results-more s.drafts a has) ∙ sym (append_assoc lists (results_of_drafts s.drafts) a)

  pub begun-results : (s : Stored X) (at : ℕ) → results_in (begun s at) ≡ results_in s
  begun-results s at =
      let lists = flat_map (λ items. items) s.lists in
      ap (λ l. lists ++ l) (flat_map-append (λ (d : ℕ × List X). d.1) s.drafts ((at, []) ∷ []) ∙ append-nil (results_of_drafts s.drafts))

  -- a draft that has grown
  last-more : (drafts : List (ℕ × List X)) (at : ℕ) (a : List X) → with_results (drafts ++ (at, []) ∷ []) a ≡ drafts ++ (at, a) ∷ []
  last-more [] at a = refl
  last-more (d ∷ []) at a = refl
  last-more (d ∷ e ∷ drafts) at a = ap (λ l. d ∷ l) (last-more (e ∷ drafts) at a)

  pub grown-begun : (s : Stored X) (at : ℕ) (a : List X) → grown (begun s at) a ≡ with_draft s at a
  grown-begun s at a = λ i. record { lists = s.lists; drafts = last-more s.drafts at a i }

-- a result of a list that is alike is one of all that are
pub some-alike : {K V T O : Type 0} (s : Stored (Kept K V T O)) (list place : ℕ) (k : Kept K V T O) (here : Place K V T) → result_at s list place ≡ Some k → IsAlike here.0 here.1 k
    → SomeAlikeAt here (results_in s)
some-alike s list place k here h alike = let c = result-contains s list place k h in (c.0, k, c.1, c.2, alike)
