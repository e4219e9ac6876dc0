-- Lists and drafts of numbers, seen as what the numbers stand for.
use Rattle.std.proofs.Common.{◌≡◌, ℕ, zero, suc, ◌<◌, Bool, true, false, List, [], ◌∷◌, ◌++◌, Option, Some, None, cond, refl, sym, ap, ◌∙◌, arith, map, length, set, take, drop, nat_lt}
use Rattle.std.proofs.lemmas.List.{drop-map, length-map, map-append, map-set, take-map}
use Rattle.std.proofs.lemmas.List.Elements.{filter_map-append}
use Rattle.std.specs.List.{cons_option, filter_map, flat_map, fold, remove, slice_get}
use Rattle.std.specs.Prelude.{IsSome, is_some}
use Rattle.idl_store.specs.Numbers.{joined, shown, times}
use Rattle.idl_store.specs.Stored.{Stored, committed, grown, item_at, list_at, placed, removed, results_in, results_of_drafts, with_results}
use Rattle.idl_store.proofs.Times.{times-append, times-drop, times_first}

-- without the item at a place, seen otherwise
pub map-removed : {X Y : Type 0} (f : X → Y) (xs : List X) (i : ℕ) → map f (remove xs i) ≡ remove (map f xs) i
map-removed f xs i = map-append f (take i xs) (drop (suc i) xs) ∙ (λ j. sym (take-map f i xs) j ++ sym (drop-map f (suc i) xs) j)

module _ {X : Type 0} (of : ℕ → Option X) where
  abbrev pub draft_shown : ℕ × List ℕ → ℕ × List X
  draft_shown d = (d.0, filter_map of d.1)

  -- more numbers in the last draft are more results in it
  pub shown-with_results : (ds : List (ℕ × List ℕ)) (ns : List ℕ) → map draft_shown (with_results ds ns) ≡ with_results (map draft_shown ds) (filter_map of ns)
  shown-with_results [] ns = refl
  shown-with_results (d ∷ []) ns = ap (λ xs. (d.0, xs) ∷ []) (filter_map-append of d.1 ns)
  shown-with_results (d ∷ e ∷ ds) ns = ap (λ ds. draft_shown d ∷ ds) (shown-with_results (e ∷ ds) ns)

  pub shown-grown_all : (s : Stored ℕ) (ns : List ℕ) → shown of (grown s ns) ≡ grown (shown of s) (filter_map of ns)
  shown-grown_all s ns = ap (λ ds. record { lists = map (filter_map of) s.lists; drafts = ds }) (shown-with_results s.drafts ns)

  pub shown-grown : (s : Stored ℕ) (n : ℕ) (x : X) → of n ≡ Some x → shown of (grown s (n ∷ [])) ≡ grown (shown of s) (x ∷ [])
  shown-grown s n x h = shown-grown_all s (n ∷ []) ∙ ap (λ o. grown (shown of s) (cons_option o [])) h

  placed_by : (lists : List (List ℕ)) (d : ℕ × List ℕ) (b : Bool) → map (filter_map of) (cond b (set lists d.0 d.1) (lists ++ d.1 ∷ [])) ≡ cond b (set (map (filter_map of) lists) d.0 (filter_map of d.1)) (map (filter_map of) lists ++ filter_map of d.1 ∷ [])
  placed_by lists d true = map-set (filter_map of) lists d.0 d.1
  placed_by lists d false = map-append (filter_map of) lists (d.1 ∷ [])

  shown-placed : (lists : List (List ℕ)) (d : ℕ × List ℕ) → map (filter_map of) (placed lists d) ≡ placed (map (filter_map of) lists) (draft_shown d)
  shown-placed lists d =
      placed_by lists d (nat_lt d.0 (length lists))
      ∙ ap (λ m. cond (nat_lt d.0 m) (set (map (filter_map of) lists) d.0 (filter_map of d.1)) (map (filter_map of) lists ++ filter_map of d.1 ∷ [])) (sym (length-map lists (filter_map of)))

  pub shown-fold : (lists : List (List ℕ)) (ds : List (ℕ × List ℕ)) → map (filter_map of) (fold placed lists ds) ≡ fold placed (map (filter_map of) lists) (map draft_shown ds)
  shown-fold lists [] = refl
  shown-fold lists (d ∷ ds) = shown-fold (placed lists d) ds ∙ ap (λ ls. fold placed ls (map draft_shown ds)) (shown-placed lists d)

  pub shown-committed : (s : Stored ℕ) → shown of (committed s) ≡ committed (shown of s)
  shown-committed s = ap (λ ls. record { lists = ls; drafts = [] }) (shown-fold s.lists s.drafts)

  pub shown-removed : (s : Stored ℕ) (list : ℕ) → shown of (removed s list) ≡ removed (shown of s) list
  shown-removed s list = ap (λ ls. record { lists = ls; drafts = map draft_shown s.drafts }) (map-removed (filter_map of) s.lists list)

  -- all results are those of all numbers
  shown-lists : (lists : List (List ℕ)) → flat_map (λ list. list) (map (filter_map of) lists) ≡ filter_map of (joined lists)
  shown-lists [] = refl
  shown-lists (l ∷ lists) = ap (λ xs. filter_map of l ++ xs) (shown-lists lists) ∙ sym (filter_map-append of l (joined lists))

  shown-drafts : (ds : List (ℕ × List ℕ)) → results_of_drafts (map draft_shown ds) ≡ filter_map of (results_of_drafts ds)
  shown-drafts [] = refl
  shown-drafts (d ∷ ds) = ap (λ xs. filter_map of d.1 ++ xs) (shown-drafts ds) ∙ sym (filter_map-append of d.1 (results_of_drafts ds))

  pub results_in-shown : (s : Stored ℕ) → results_in (shown of s) ≡ filter_map of (results_in s)
  results_in-shown s = (λ i. shown-lists s.lists i ++ shown-drafts s.drafts i) ∙ sym (filter_map-append of (joined s.lists) (results_of_drafts s.drafts))

-- ---- where numbers come to stand for other things

module _ {X : Type 0} (of by : ℕ → Option X) where
  -- the same stands for each number that is there
  pub filter_map-same : (ns : List ℕ) → ((n : ℕ) → 0 < times n ns → by n ≡ of n) → filter_map by ns ≡ filter_map of ns
  filter_map-same [] h = refl
  filter_map-same (n ∷ ns) h = λ i. cons_option (h n (here n ns) i) (filter_map-same ns (λ m there. h m (omega (arith, there))) i)
    where
      here : (n : ℕ) (ns : List ℕ) → 0 < times n (n ∷ ns)
      here n ns = omega (arith, times_first n ns)

  lists-same : (lists : List (List ℕ)) → ((n : ℕ) → 0 < times n (joined lists) → by n ≡ of n) → map (filter_map by) lists ≡ map (filter_map of) lists
  lists-same [] h = refl
  lists-same (l ∷ lists) h = λ i.
      filter_map-same l (λ n there. h n (omega (arith, there, times-append n l (joined lists)))) i
      ∷ lists-same lists (λ n there. h n (omega (arith, there, times-append n l (joined lists)))) i

  drafts-same : (ds : List (ℕ × List ℕ)) → ((n : ℕ) → 0 < times n (results_of_drafts ds) → by n ≡ of n) → map (draft_shown by) ds ≡ map (draft_shown of) ds
  drafts-same [] h = refl
  drafts-same (d ∷ ds) h = λ i.
      (d.0, filter_map-same d.1 (λ n there. h n (omega (arith, there, times-append n d.1 (results_of_drafts ds)))) i)
      ∷ drafts-same ds (λ n there. h n (omega (arith, there, times-append n d.1 (results_of_drafts ds)))) i

  pub shown-same : (s : Stored ℕ) → ((n : ℕ) → 0 < times n (results_in s) → by n ≡ of n) → shown by s ≡ shown of s
  shown-same s h = λ i. record {
    lists = lists-same s.lists (λ n there. h n (omega (arith, there, times-append n (joined s.lists) (results_of_drafts s.drafts)))) i;
    drafts = drafts-same s.drafts (λ n there. h n (omega (arith, there, times-append n (joined s.lists) (results_of_drafts s.drafts)))) i;
  }

-- ---- where each number stands for something

module _ {X : Type 0} (of : ℕ → Option X) where
  abbrev AllStand : List ℕ → Type 0
  AllStand ns = (n : ℕ) → 0 < times n ns → IsSome (of n)

  behind : (n : ℕ) (ns : List ℕ) → AllStand (n ∷ ns) → AllStand ns
  behind n ns h m there = h m (omega (arith, there))

  first : (n : ℕ) (ns : List ℕ) → AllStand (n ∷ ns) → (x : X) × (of n ≡ Some x)
  first n ns h = by (of n) refl (h n (omega (arith, times_first n ns)))
    where
      by : (o : Option X) → of n ≡ o → IsSome (of n) → (x : X) × (of n ≡ Some x)
      by None e some =
          let no : is_some (of n) ≡ false = ap is_some e in
          absurd (cc)
      by (Some x) e some = (x, e)

  -- there is one for each
  pub length-shown : (ns : List ℕ) → ((n : ℕ) → 0 < times n ns → IsSome (of n)) → length (filter_map of ns) ≡ length ns
  length-shown [] h = refl
  length-shown (n ∷ ns) h =
      let one = first n ns h in
      ap (λ o. length (cons_option o (filter_map of ns))) one.1 ∙ ap suc (length-shown ns (behind n ns h))

  -- and it stands at the place of its number
  pub shown-at : (ns : List ℕ) (place : ℕ) → ((n : ℕ) → 0 < times n ns → IsSome (of n)) → slice_get (filter_map of ns) place ≡ elim (slice_get ns place) [ None ↦ None | Some n ↦ of n ]
  shown-at [] place h = refl
  shown-at (n ∷ ns) zero h =
      let one = first n ns h in
      ap (λ o. slice_get (cons_option o (filter_map of ns)) zero) one.1 ∙ sym one.1
  shown-at (n ∷ ns) (suc place) h =
      let one = first n ns h in
      ap (λ o. slice_get (cons_option o (filter_map of ns)) (suc place)) one.1 ∙ shown-at ns place (behind n ns h)

  -- in whichever list
  pub item_at-shown : (lists : List (List ℕ)) (list place : ℕ) → ((n : ℕ) → 0 < times n (joined lists) → IsSome (of n)) → item_at (map (filter_map of) lists) list place ≡ elim (item_at lists list place) [ None ↦ None | Some n ↦ of n ]
  item_at-shown [] list place h = refl
  item_at-shown (l ∷ lists) zero place h = shown-at l place (λ n there. h n (omega (arith, there, times-append n l (joined lists))))
  item_at-shown (l ∷ lists) (suc list) place h = item_at-shown lists list place (λ n there. h n (omega (arith, there, times-append n l (joined lists))))

  -- so many are in a list
  pub list_at-shown : (lists : List (List ℕ)) (list : ℕ) → ((n : ℕ) → 0 < times n (joined lists) → IsSome (of n)) → length (list_at (map (filter_map of) lists) list) ≡ length (list_at lists list)
  list_at-shown [] list h = refl
  list_at-shown (l ∷ lists) zero h = length-shown l (λ n there. h n (omega (arith, there, times-append n l (joined lists))))
  list_at-shown (l ∷ lists) (suc list) h = list_at-shown lists list (λ n there. h n (omega (arith, there, times-append n l (joined lists))))

  -- of the first ones, and of those behind them
  shown-take : (count : ℕ) (ns : List ℕ) → AllStand ns → take count (filter_map of ns) ≡ filter_map of (take count ns)
  shown-take zero ns h = refl
  shown-take (suc count) [] h = refl
  shown-take (suc count) (n ∷ ns) h =
      let one = first n ns h in
      ap (λ o. take (suc count) (cons_option o (filter_map of ns))) one.1
      ∙ ap (λ xs. one.0 ∷ xs) (shown-take count ns (behind n ns h))
      ∙ sym (ap (λ o. cons_option o (filter_map of (take count ns))) one.1)

  shown-drop : (place : ℕ) (ns : List ℕ) → AllStand ns → drop place (filter_map of ns) ≡ filter_map of (drop place ns)
  shown-drop zero ns h = refl
  shown-drop (suc place) [] h = refl
  shown-drop (suc place) (n ∷ ns) h =
      let one = first n ns h in
      ap (λ o. drop (suc place) (cons_option o (filter_map of ns))) one.1 ∙ shown-drop place ns (behind n ns h)

  pub shown-part : (ns : List ℕ) (place count : ℕ) → ((n : ℕ) → 0 < times n ns → IsSome (of n)) → take count (drop place (filter_map of ns)) ≡ filter_map of (take count (drop place ns))
  shown-part ns place count h =
      ap (take count) (shown-drop place ns h) ∙ shown-take count (drop place ns) (λ n there. h n (omega (arith, there, times-drop n place ns)))

  -- a list is what its numbers stand for
  pub list_at-filtered : (lists : List (List ℕ)) (list : ℕ) → list_at (map (filter_map of) lists) list ≡ filter_map of (list_at lists list)
  list_at-filtered [] list = refl
  list_at-filtered (l ∷ lists) zero = refl
  list_at-filtered (l ∷ lists) (suc list) = list_at-filtered lists list
