-- What stands at a place of a list of a store.
use Rattle.std.proofs.Common.{◌≡◌, ℕ, ◌<◌, List, [], ◌∷◌, Option, Some, None, Vec, ap, arith, length, map, refl, sym, ◌∙◌}
use Rattle.std.specs.Global.{Global}
use Rattle.std.specs.List.{slice_get}
use Rattle.std.specs.Option.{option_map, option_to_list, unwrap_or}
use Rattle.std.proofs.lemmas.List.{append-nil}
use Rattle.std.proofs.lemmas.Option.{slice_get-map, unwrap_or-slice_get}
use Rattle.std.specs.Prelude.{IsSome}
use Rattle.slab.specs.Slab.{Slab, get}
use Rattle.idl_store.specs.Numbers.{AreMore, IsStored, drafts_of, joined, lists_of, result_of, shown, times, with_bucket}
use Rattle.idl_store.specs.Stored.{Stored, grown, item_at, list_at, result_at, results_in, results_of_drafts, with_results}
use Rattle.idl_store.specs.declared.numbers.Draft.{Draft}
use Rattle.idl_store.specs.declared.index.Numbered.{Numbered}
use Rattle.idl_store.specs.declared.numbers.Used.{Used}
use Rattle.idl_store.proofs.Shown.{item_at-shown, list_at-shown, shown-grown, shown-same}
use Rattle.idl_store.proofs.Changing.{stands-for, taken}
use Rattle.idl_store.proofs.Times.{times-append, times_at}

-- what stands under a number
pub result-under : {R : Type 0} (used : Slab (Used R)) (n : ℕ) (u : Used R) → get used n ≡ Some u → result_of used n ≡ Some u.result
result-under {R} used n u h = ap (λ o. option_map (λ (r : R × ℕ). r.0) (option_map with_bucket o)) h

-- the numbers of a list of vectors
pub list_at-vector : (lists : List (Vec ℕ Global)) (list : ℕ) (found : Option (Vec ℕ Global)) → slice_get lists list ≡ found → list_at (lists_of lists) list ≡ unwrap_or (option_map (λ (l : Vec ℕ Global). l.items) found) []
list_at-vector lists list found h =
    sym (unwrap_or-slice_get (lists_of lists) list [])
    ∙ ap (λ (o : Option (List ℕ)). unwrap_or o []) (slice_get-map (λ (l : Vec ℕ Global). l.items) lists list ∙ ap (option_map (λ (l : Vec ℕ Global). l.items)) h)

-- and of a draft
pub list_at-draft : (drafts : List Draft) (list : ℕ) (found : Option Draft) → slice_get drafts list ≡ found → list_at (map (λ d. d.1) (drafts_of drafts)) list ≡ unwrap_or (option_map (λ (d : ℕ × List ℕ). d.1) (option_map (λ (d : Draft). (d.at, d.numbers.items)) found)) []
list_at-draft drafts list found h =
    sym (unwrap_or-slice_get (map (λ d. d.1) (drafts_of drafts)) list [])
    ∙ ap (λ (o : Option (List ℕ)). unwrap_or o []) (slice_get-map (λ (d : ℕ × List ℕ). d.1) (drafts_of drafts) list ∙ ap (option_map (λ (d : ℕ × List ℕ). d.1)) (slice_get-map (λ (d : Draft). (d.at, d.numbers.items)) drafts list ∙ ap (option_map (λ (d : Draft). (d.at, d.numbers.items))) h))

-- nothing more
with_results-none : {X : Type 0} (ds : List (ℕ × List X)) → with_results ds [] ≡ ds
with_results-none [] = refl
with_results-none (d ∷ []) = ap (λ xs. (d.0, xs) ∷ []) (append-nil d.1)
with_results-none (d ∷ e ∷ ds) = ap (λ ds. d ∷ ds) (with_results-none (e ∷ ds))

pub grown-nothing : {X : Type 0} (s : Stored X) → grown s [] ≡ s
grown-nothing s = ap (λ ds. record { lists = s.lists; drafts = ds }) (with_results-none s.drafts)

module _ {R : Type 0} {is_sound : R → Type 0} {bucket : R → ℕ} {used : Slab (Used R)} {index : List (ℕ × List (Numbered R))} {numbers : Stored ℕ} (stored : IsStored is_sound bucket used index numbers) where
  in_all : (n : ℕ) → 0 < times n (joined numbers.lists) → 0 < times n (results_in numbers)
  in_all n there = omega (arith, there, times-append n (joined numbers.lists) (results_of_drafts numbers.drafts))

  all_stand : (n : ℕ) → 0 < times n (joined numbers.lists) → IsSome (result_of used n)
  all_stand n there = stands-for stored n (in_all n there)

  -- the result there is what its number stands for
  pub result-read : (list place : ℕ) → result_at (shown (result_of used) numbers) list place ≡ elim (item_at numbers.lists list place) [ None ↦ None | Some n ↦ result_of used n ]
  result-read list place = item_at-shown (result_of used) numbers.lists list place all_stand

  -- so many there are
  pub length-read : (list : ℕ) → length (list_at (shown (result_of used) numbers).lists list) ≡ length (list_at numbers.lists list)
  length-read list = list_at-shown (result_of used) numbers.lists list all_stand

  -- the number there is taken
  pub taken-read : (list place n : ℕ) → item_at numbers.lists list place ≡ Some n → IsSome (get used n)
  taken-read list place n h = taken stored n (in_all n (times_at n numbers.lists list place h))

  -- and stands for the result there
  pub result-at_number : (list place n : ℕ) → item_at numbers.lists list place ≡ Some n → result_at (shown (result_of used) numbers) list place ≡ result_of used n
  result-at_number list place n h = result-read list place ∙ ap (λ o. elim o [ None ↦ None | Some n ↦ result_of used n ]) h

  pub result-at_none : (list place : ℕ) → item_at numbers.lists list place ≡ None → result_at (shown (result_of used) numbers) list place ≡ None
  result-at_none list place h = result-read list place ∙ ap (λ o. elim o [ None ↦ None | Some n ↦ result_of used n ]) h

  -- it is in the last draft too, where its uses are more
  pub shown-again : (list place n : ℕ) (x : R) (new : Slab (Used R)) → item_at numbers.lists list place ≡ Some n → result_of used n ≡ Some x → AreMore used new (results_of_drafts numbers.drafts) (results_of_drafts (with_results numbers.drafts (n ∷ []))) → shown (result_of new) (grown numbers (n ∷ [])) ≡ grown (shown (result_of used) numbers) (option_to_list (result_at (shown (result_of used) numbers) list place))
  shown-again list place n x new h is more =
      shown-same (result_of used) (result_of new) (grown numbers (n ∷ [])) (λ m there. ap (option_map (λ (r : R × ℕ). r.0)) (more.kept m))
      ∙ shown-grown (result_of used) numbers n x is
      ∙ ap (λ o. grown (shown (result_of used) numbers) (option_to_list o)) (sym (result-at_number list place n h ∙ is))
