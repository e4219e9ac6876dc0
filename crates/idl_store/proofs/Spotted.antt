-- What stands at the spots of a store.
use Rattle.std.proofs.Common.{◌≡◌, ℕ, suc, ◌+◌, ◌-◌, ◌<◌, ◌≤◌, Bool, true, false, List, [], ◌∷◌, ◌++◌, Option, Some, None, ap, arith, drop, get_or, length, map, nat_eq, refl, slice_get, subst, sym, take, ◌∙◌, Result, Ok, Err, OnOk}
use Rattle.std.specs.List.{filter_map, position}
use Rattle.std.specs.Option.{option_map}
use Rattle.std.specs.Prelude.{All, IsSome}
use Rattle.std.proofs.lemmas.Bool.{eqb-true}
use Rattle.std.proofs.lemmas.List.{length-map}
use Rattle.std.proofs.lemmas.List.Quantifiers.{position-Some}
use Rattle.std.proofs.lemmas.Option.{slice_get_read}
use Rattle.slab.specs.Slab.{Slab, get}
use Rattle.idl_store.specs.Numbers.{AreMore, IsStored, joined, result_of, shown, times}
use Rattle.idl_store.specs.Spots.{lists_among, result_on, results_from}
use Rattle.idl_store.specs.Stored.{Stored, grown, item_at, last_draft, last_of, list_at, results_in, results_of_drafts, with_results}
use Rattle.idl_store.specs.declared.numbers.Spot.{Spot}
use Rattle.idl_store.specs.declared.index.Numbered.{Numbered}
use Rattle.idl_store.specs.declared.numbers.Used.{Used}
use Rattle.idl_store.proofs.Changing.{stands-for, taken}
use Rattle.idl_store.proofs.Shown.{draft_shown, item_at-shown, list_at-filtered, list_at-shown, shown-grown_all, shown-part, shown-same}
use Rattle.idl_store.proofs.Times.{times-all, times-append, times-drop, times-take, times_at, times_list}

-- the last draft is the last one of the lists of drafts
last-among : {X : Type 0} (ds : List (ℕ × List X)) → list_at (map (λ d. d.1) ds) (length ds - 1) ≡ last_of ds
last-among [] = refl
last-among (d ∷ []) = refl
last-among (d ∷ e ∷ ds) =
    let place : suc (suc (length ds)) - 1 ≡ suc (suc (length ds) - 1) = omega arith in
    ap (λ (n : ℕ). list_at (map (λ d. d.1) (d ∷ e ∷ ds)) n) place ∙ last-among (e ∷ ds)

-- a number stands where the first is found
pub first-stands : (ns : List ℕ) (n place : ℕ) → position (λ m. nat_eq m n) ns ≡ Some place → slice_get ns place ≡ Some n
first-stands ns n place h =
    let found = position-Some (λ m. nat_eq m n) ns place n h in
    slice_get_read ns (length ns) place n refl found.0 (sym (eqb-true (get_or ns place n) n found.1))

-- the numbers of drafts, one after another
joined-drafts : (ds : List (ℕ × List ℕ)) → joined (map (λ d. d.1) ds) ≡ results_of_drafts ds
joined-drafts [] = refl
joined-drafts (d ∷ ds) = ap (λ ns. d.1 ++ ns) (joined-drafts ds)

module _ (s : Stored ℕ) (n : ℕ) where
  parts : times n (results_in s) ≡ times n (joined (lists_among s false)) + times n (joined (lists_among s true))
  parts = times-append n (joined s.lists) (results_of_drafts s.drafts) ∙ ap (λ ns. times n (joined s.lists) + times n ns) (sym (joined-drafts s.drafts))

  -- a number among those of the lists, or of the drafts, is one of all
  pub among_all : (is_draft : Bool) → times n (joined (lists_among s is_draft)) ≤ times n (results_in s)
  among_all false = omega (arith, parts)
  among_all true = omega (arith, parts)

  -- and one of none of them is none of all
  pub none_among : times n (joined (lists_among s true)) ≡ 0 → times n (joined (lists_among s false)) ≡ 0 → times n (results_in s) ≡ 0
  none_among drafts lists = omega (arith, parts, drafts, lists)

  -- one that stands at a spot is one of all
  pub on_all : (spot : Spot) → result_on s spot ≡ Some n → 0 < times n (results_in s)
  on_all spot h = omega (arith, among_all spot.is_draft, times_at n (lists_among s spot.is_draft) spot.list spot.place h)

  -- and so is one of those from a spot on
  pub from_all : (spot : Spot) (count : ℕ) → 0 < times n (results_from s spot count) → 0 < times n (results_in s)
  from_all spot count there =
      let lists = lists_among s spot.is_draft in
      let list = list_at lists spot.list in
      omega (arith, there, times-take n count (drop spot.place list), times-drop n spot.place list, times_list n lists spot.list, among_all spot.is_draft)

-- lists and drafts of numbers are seen as what the numbers stand for
module _ {X : Type 0} (of : ℕ → Option X) where
  drafts-shown : (ds : List (ℕ × List ℕ)) → map (λ d. d.1) (map (draft_shown of) ds) ≡ map (filter_map of) (map (λ d. d.1) ds)
  drafts-shown [] = refl
  drafts-shown (d ∷ ds) = ap (λ ls. filter_map of d.1 ∷ ls) (drafts-shown ds)

  among-shown : (s : Stored ℕ) (is_draft : Bool) → lists_among (shown of s) is_draft ≡ map (filter_map of) (lists_among s is_draft)
  among-shown s false = refl
  among-shown s true = drafts-shown s.drafts

module _ {R : Type 0} {is_sound : R → Type 0} {bucket : R → ℕ} {used : Slab (Used R)} {index : List (ℕ × List (Numbered R))} {numbers : Stored ℕ} (stored : IsStored is_sound bucket used index numbers) (spot : Spot) where
  lists_stand : (n : ℕ) → 0 < times n (joined (lists_among numbers spot.is_draft)) → IsSome (result_of used n)
  lists_stand n there = stands-for stored n (omega (arith, there, among_all numbers n spot.is_draft))

  -- the number there is taken
  pub taken-on : (n : ℕ) → result_on numbers spot ≡ Some n → IsSome (get used n)
  taken-on n h = taken stored n (on_all numbers n spot h)

  -- the result there is what its number stands for
  pub result-on : result_on (shown (result_of used) numbers) spot ≡ elim (result_on numbers spot) [ None ↦ None | Some n ↦ result_of used n ]
  result-on =
      ap (λ ls. item_at ls spot.list spot.place) (among-shown (result_of used) numbers spot.is_draft)
      ∙ item_at-shown (result_of used) (lists_among numbers spot.is_draft) spot.list spot.place lists_stand

  pub result-on_number : (found : Option ℕ) → found ≡ result_on numbers spot → result_on (shown (result_of used) numbers) spot ≡ elim found [ None ↦ None | Some n ↦ result_of used n ]
  result-on_number found h = result-on ∙ ap (λ o. elim o [ None ↦ None | Some n ↦ result_of used n ]) (sym h)

  -- a list, or a draft, has as many results as numbers
  pub length-on : length (list_at (lists_among (shown (result_of used) numbers) spot.is_draft) spot.list) ≡ length (list_at (lists_among numbers spot.is_draft) spot.list)
  length-on =
      ap (λ ls. length (list_at ls spot.list)) (among-shown (result_of used) numbers spot.is_draft)
      ∙ list_at-shown (result_of used) (lists_among numbers spot.is_draft) spot.list lists_stand

  -- where one number stands at two spots, one result does
  pub same-on : (other : Spot) (n : ℕ) → result_on numbers spot ≡ Some n → result_on numbers other ≡ Some n → result_on (shown (result_of used) numbers) spot ≡ result_on (shown (result_of used) numbers) other
  same-on other n here there =
      result-on_number (Some n) (sym here)
      ∙ sym (ap (λ ls. item_at ls other.list other.place) (among-shown (result_of used) numbers other.is_draft)
      ∙ item_at-shown (result_of used) (lists_among numbers other.is_draft) other.list other.place (λ m those. stands-for stored m (omega (arith, those, among_all numbers m other.is_draft)))
      ∙ ap (λ o. elim o [ None ↦ None | Some n ↦ result_of used n ]) there)

  module _ (count : ℕ) where
    -- the numbers from there on are taken
    pub taken-from : All (λ n. IsSome (get used n)) (results_from numbers spot count)
    taken-from = times-all (λ n. IsSome (get used n)) (results_from numbers spot count) (λ n there. taken stored n (from_all numbers n spot count there))

    -- and the results are what they stand for
    pub results-from : results_from (shown (result_of used) numbers) spot count ≡ filter_map (result_of used) (results_from numbers spot count)
    results-from =
        let lists = lists_among numbers spot.is_draft in
        ap (λ ls. take count (drop spot.place (list_at ls spot.list))) (among-shown (result_of used) numbers spot.is_draft)
        ∙ ap (λ xs. take count (drop spot.place xs)) (list_at-filtered (result_of used) lists spot.list)
        ∙ shown-part (result_of used) (list_at lists spot.list) spot.place count (λ n there. lists_stand n (omega (arith, there, times_list n lists spot.list)))

    -- they are in the last draft too, where their uses are more
    pub shown-taken : (new : Slab (Used R)) → AreMore used new (results_of_drafts numbers.drafts) (results_of_drafts (with_results numbers.drafts (results_from numbers spot count))) → shown (result_of new) (grown numbers (results_from numbers spot count)) ≡ grown (shown (result_of used) numbers) (results_from (shown (result_of used) numbers) spot count)
    shown-taken new more =
        shown-same (result_of used) (result_of new) (grown numbers (results_from numbers spot count)) (λ m there. ap (option_map (λ (r : R × ℕ). r.0)) (more.kept m))
        ∙ shown-grown_all (result_of used) numbers (results_from numbers spot count)
        ∙ ap (grown (shown (result_of used) numbers)) (sym results-from)

    -- whichever way that ends
    pub part-taken : {Y Z : Type 0} (r : Result Y Z) (new : Slab (Used R)) (drafts : List (ℕ × List ℕ)) (ns : List ℕ) (s : Stored R) → shown (result_of used) numbers ≡ s → ns ≡ results_from numbers spot count → OnOk r (drafts ≡ with_results numbers.drafts ns) → OnOk r (AreMore used new (results_of_drafts numbers.drafts) (results_of_drafts drafts)) → OnOk r (shown (result_of new) (record { lists = numbers.lists; drafts = drafts }) ≡ grown s (results_from s spot count))
    part-taken (Ok y) new drafts ns s view same is more =
        let whole : drafts ≡ with_results numbers.drafts (results_from numbers spot count) = is ∙ ap (with_results numbers.drafts) same in
        ap (λ (ds : List (ℕ × List ℕ)). shown (result_of new) (record { lists = numbers.lists; drafts = ds })) whole
        ∙ shown-taken new (subst (λ (ds : List (ℕ × List ℕ)). AreMore used new (results_of_drafts numbers.drafts) (results_of_drafts ds)) whole more)
        ∙ ap (λ (s : Stored R). grown s (results_from s spot count)) view
    part-taken (Err z) new drafts ns s view same is more = tt

-- the last draft has as many results as numbers
pub last-read : {R : Type 0} {is_sound : R → Type 0} {bucket : R → ℕ} {used : Slab (Used R)} {index : List (ℕ × List (Numbered R))} {numbers : Stored ℕ} (stored : IsStored is_sound bucket used index numbers) (n : ℕ)
    → n ≡ length numbers.drafts → length (list_at (map (λ d. d.1) numbers.drafts) (n - 1)) ≡ length (last_draft (shown (result_of used) numbers))
last-read {used} {numbers} stored n is =
    let results = (shown (result_of used) numbers).drafts in
    let as_many : n ≡ length results = is ∙ sym (length-map numbers.drafts (draft_shown (result_of used))) in
    sym (length-on stored (record { is_draft = true; list = n - 1; place = 0 }))
    ∙ ap (λ (n : ℕ). length (list_at (map (λ d. d.1) results) (n - 1))) as_many
    ∙ ap length (last-among results)
