-- A block comes into the last draft: one that is left, or one that is taken whole.
use Rattle.std.proofs.Common.{◌≡◌, ◌∙◌, ◌⊎◌, ◌≢◌, ◌+◌, ◌-◌, ◌<◌, ◌≤◌, ℕ, Bool, true, false, List, [], ◌∷◌, ◌++◌, Option, Some, append-nil, arith, drop, get_or, inl, inr, length, map, refl, slice_get, subst, sym, take, ap}
use Rattle.std.proofs.lemmas.Bool.{cases_eq}
use Rattle.std.proofs.lemmas.List.{length-append, map_more}
use Rattle.std.proofs.lemmas.List.Elements.{All-same}
use Rattle.std.proofs.lemmas.Option.{same_Some, slice_get-get_or}
use Rattle.std.specs.Prelude.{All}
use Rattle.idl_env.specs.Facts.{UnitFacts}
use Rattle.idl_kept.proofs.Begins.{begins-within, count-unit_results, moved-begins, moved-first}
use Rattle.idl_kept.proofs.Drafts.{at-last, last-more, last_texts, more-kept, other-same, with_more}
use Rattle.idl_kept.proofs.Lists.{get-part, get-stays, part-next}
use Rattle.idl_kept.proofs.Roots.{block-comes, part-stays}
use Rattle.idl_kept.proofs.Taking.{begins_long, begins_part, block-taken, inner-whole, more_begins, more_blocks, more_units, same-pieces, taken-begins, taken-blocks, units-whole}
use Rattle.idl_kept.specs.Parts.{HasPart, inner_from}
use Rattle.idl_kept.specs.Texts.{AreKept, AreWhole, BlockResult, DeclarationResult, IsLast, IsPlaced, IsTaken, IsWhole, RootTexts, Texts, begins_in, inner_results, moved, root_texts, unit_results, with_blocks, with_units, with_whole}
use Rattle.idl_root_blocks.specs.Blocks.{Pieces, cut, text_in}
use Rattle.idl_root_blocks.specs.Finding.{blocks_in, texts_in}
use Rattle.idl_root_blocks.specs.Places.{block_at, block_result}
use Rattle.idl_kept.specs.declared.parts.Part.{Part}
use Rattle.idl_store.proofs.Reading.{grown-nothing}
use Rattle.idl_store.proofs.StoredLaws.{grown-twice}
use Rattle.idl_store.specs.Spots.{lists_among, result_on, results_from}
use Rattle.idl_store.specs.Stored.{Stored, grown, last_draft, last_of, list_at, with_results}
use Rattle.idl_store.specs.declared.numbers.Spot.{Spot}

-- ---- a block that is left

module _ (texts : Texts) (are : AreKept texts) (kept : BlockResult) (begin : ℕ) (before : List UnitFacts) (inside : Pieces) (placed : IsPlaced before inside) (last : IsLast texts begin before inside)
    (result : kept ≡ block_result (block_at before inside)) where
  comes : AreWhole (last_texts texts) → AreWhole (record { units = last_draft texts.declarations ++ []; blocks = last_draft texts.blocks ++ kept ∷ []; begins = last_draft texts.begins ++ begin ∷ [] })
  comes whole =
      subst (λ (us : List DeclarationResult). AreWhole (record { units = us; blocks = last_draft texts.blocks ++ kept ∷ []; begins = last_draft texts.begins ++ begin ∷ [] }))
      (sym (append-nil (last_draft texts.declarations)))
      (block-comes (last_texts texts) whole begin before inside placed kept result last.units last.earlier last.inner last.numbers last.begins)

  pub put-kept : AreKept (with_blocks texts (kept ∷ []) (begin ∷ []))
  put-kept =
      subst (λ (d : Stored DeclarationResult). AreKept (record { declarations = d; blocks = grown texts.blocks (kept ∷ []); begins = grown texts.begins (begin ∷ []) }))
      (grown-nothing texts.declarations)
      (more-kept texts are (record { units = []; blocks = kept ∷ []; begins = begin ∷ [] }) comes)

-- ---- results that were there stay

pub list-grown : {X : Type 0} (stored : Stored X) (more : List X) (is_draft : Bool) (list : ℕ)
    → (behind : List X) × (list_at (lists_among (grown stored more) is_draft) list ≡ list_at (lists_among stored is_draft) list ++ behind)
list-grown stored more false list = ([], sym (append-nil (list_at stored.lists list)))
list-grown stored more true list = by (cases_eq (list + 1) (length stored.drafts))
  where
    by : (list + 1 ≡ length stored.drafts) ⊎ (list + 1 ≢ length stored.drafts)
        → (behind : List _) × (list_at (lists_among (grown stored more) true) list ≡ list_at (lists_among stored true) list ++ behind)
    by (inl is) = (more, last-more stored.drafts more list is ∙ ap (λ (xs : List _). xs ++ more) (sym (at-last stored.drafts list is)))
    by (inr other) = ([], other-same stored.drafts more list other ∙ sym (append-nil (list_at (lists_among stored true) list)))

pub results-stay : {X : Type 0} (stored : Stored X) (more : List X) (spot : Spot) (results : List X) → results_from stored spot (length results) ≡ results
    → results_from (grown stored more) spot (length results) ≡ results
results-stay stored more spot results there =
    let old = list_at (lists_among stored spot.is_draft) spot.list in
    let new = list_at (lists_among (grown stored more) spot.is_draft) spot.list in
    let grows = list-grown stored more spot.is_draft spot.list in
    part-stays old new grows.0 spot.place results grows.1 there

pub result-stays : {X : Type 0} (stored : Stored X) (more : List X) (spot : Spot) (x : X) → result_on stored spot ≡ Some x → result_on (grown stored more) spot ≡ Some x
result-stays stored more spot x there =
    let old = list_at (lists_among stored spot.is_draft) spot.list in
    let grows = list-grown stored more spot.is_draft spot.list in
    ap (λ (xs : List _). slice_get xs spot.place) grows.1 ∙ get-stays old grows.0 spot.place x there

-- ---- a block that is taken whole

module _ (texts : Texts) (are : AreKept texts) (spot : Spot) (kept : BlockResult) (there : result_on texts.blocks spot ≡ Some kept) where
  abbrev source : RootTexts
  source = root_texts texts spot.is_draft spot.list

  -- where it stood
  pub whole-on : IsWhole source spot.place kept
  whole-on = (are.roots spot.is_draft spot.list).whole spot.place kept there

  module _ (w : IsWhole source spot.place kept) where
    abbrev more : RootTexts
    more = record {
      units = more_units source (are.roots spot.is_draft spot.list) spot.place kept w there (last_texts texts);
      blocks = more_blocks source (are.roots spot.is_draft spot.list) spot.place kept w there (last_texts texts);
      begins = more_begins source (are.roots spot.is_draft spot.list) spot.place kept w there (last_texts texts);
    }

    more-is : with_more texts more ≡ with_whole texts w.before w.inside
    more-is = λ i. with_more texts (record {
      units = w.units i;
      blocks = (taken-blocks source (are.roots spot.is_draft spot.list) spot.place kept w there (last_texts texts) ∙ ap (λ (k : BlockResult). inner_results w.before w.inside ++ k ∷ []) w.result) i;
      begins = taken-begins source (are.roots spot.is_draft spot.list) spot.place kept w there (last_texts texts) i;
    })

    pub whole-kept : AreKept (with_whole texts w.before w.inside)
    whole-kept =
        subst AreKept more-is
        (more-kept texts are more
        (λ whole.
        block-taken source (are.roots spot.is_draft spot.list) spot.place kept w there (last_texts texts) whole
        (record { units = last_draft texts.declarations ++ more.units; blocks = last_draft texts.blocks ++ more.blocks; begins = last_draft texts.begins ++ more.begins })
        (record { units_are = refl; blocks_are = refl; begins_are = refl })))

-- ---- what is told of it

-- whoever takes it is told how many units and blocks are in it
module _ (texts : Texts) (are : AreKept texts) (spot : Spot) (kept : BlockResult) (there : result_on texts.blocks spot ≡ Some kept) (units inner : ℕ) (own : units ≡ texts_in kept.text) (nested : inner ≡ blocks_in (cut kept.text)) where
  abbrev root : RootTexts
  root = root_texts texts spot.is_draft spot.list

  abbrev w : IsWhole root spot.place kept
  w = whole-on texts are spot kept there

  units_are : units ≡ length (unit_results w.before w.inside)
  units_are = own ∙ sym (units-whole root spot.place kept w)

  inner_are : inner ≡ length (inner_results w.before w.inside)
  inner_are = nested ∙ sym (inner-whole root spot.place kept w)

  inner_begins : take inner (drop (spot.place - inner) root.begins) ≡ begins_in w.begin w.inside
  inner_begins =
      ap (λ (m : ℕ). take m (drop (spot.place - m) root.begins)) inner_are
      ∙ begins_part root (are.roots spot.is_draft spot.list) spot.place kept w there

  inner_blocks : take inner (drop (spot.place - inner) root.blocks) ≡ inner_results w.before w.inside
  inner_blocks = ap (λ (m : ℕ). take m (drop (spot.place - m) root.blocks)) inner_are ∙ w.inner

  own_units : take units (drop w.begin root.units) ≡ unit_results w.before w.inside
  own_units = ap (λ (n : ℕ). take n (drop w.begin root.units)) units_are ∙ w.units

  pub has-part : HasPart texts.declarations texts.begins (record { spot = spot; units = units; inner = inner })
  has-part = record {
    begin = w.begin;
    there = w.begins_at;
    whole = ap (λ (us : List DeclarationResult). length us) own_units ∙ sym units_are;
    after = omega (arith, inner_are, w.after);
    long = ap (λ (ns : List ℕ). length ns) inner_begins ∙ begins_long root (are.roots spot.is_draft spot.list) spot.place kept w there ∙ sym inner_are;
    within =
        let texts_are : texts_in (text_in w.inside) ≡ units = sym (count-unit_results w.before w.inside) ∙ sym units_are in
        All-same (λ n. (w.begin ≤ n) × (n ≤ w.begin + units)) (take inner (drop (spot.place - inner) root.begins)) (begins_in w.begin w.inside) inner_begins
        (subst (λ (k : ℕ). All (λ n. (w.begin ≤ n) × (n ≤ w.begin + k)) (begins_in w.begin w.inside)) texts_are (begins-within w.begin w.inside));
  }

  -- and what comes is told so
  module _ (declarations : Stored DeclarationResult) (blocks : Stored BlockResult) (begins : Stored ℕ) (place : ℕ) (begin : result_on texts.begins spot ≡ Some place)
      (declarations_are : declarations ≡ grown texts.declarations (results_from texts.declarations (record spot { place = place }) units))
      (blocks_are : blocks ≡ grown texts.blocks (take inner (drop (spot.place - inner) root.blocks) ++ kept ∷ []))
      (begins_are : begins ≡ grown texts.begins (map (moved place (length (last_draft texts.declarations))) (take inner (drop (spot.place - inner) root.begins)) ++ length (last_draft texts.declarations) ∷ [])) where
    abbrev new : Texts
    new = record { declarations = declarations; blocks = blocks; begins = begins }

    abbrev to : ℕ
    to = length (last_draft texts.declarations)

    place_is : w.begin ≡ place
    place_is = same_Some w.begin place (sym w.begins_at ∙ begin)

    moved_are : map (moved place to) (take inner (drop (spot.place - inner) root.begins)) ≡ begins_in to w.inside
    moved_are =
        ap (λ (p : ℕ). map (moved p to) (take inner (drop (spot.place - inner) root.begins))) (sym place_is)
        ∙ ap (map (moved w.begin to)) inner_begins
        ∙ moved-begins w.begin to w.begin w.inside (omega arith)
        ∙ ap (λ (n : ℕ). begins_in n w.inside) (moved-first w.begin to)

    new-is : new ≡ with_whole texts w.before w.inside
    new-is = λ i. record {
      declarations = (declarations_are ∙ ap (grown texts.declarations) (ap (λ (p : ℕ). take units (drop p root.units)) (sym place_is) ∙ own_units)) i;
      blocks = (blocks_are ∙ ap (grown texts.blocks) (λ j. inner_blocks j ++ w.result j ∷ [])) i;
      begins = (begins_are ∙ ap (λ (ns : List ℕ). grown texts.begins (ns ++ to ∷ [])) moved_are) i;
    }

    pub taken-kept : AreKept new
    taken-kept = subst AreKept (sym new-is) (whole-kept texts are spot kept there w)

    -- the results of its units stood there
    stood : let results = unit_results w.before w.inside in results_from texts.declarations (record spot { place = place }) (length results) ≡ results
    stood =
        let results = unit_results w.before w.inside in
        ap (λ (p : ℕ). take (length results) (drop p root.units)) (sym place_is) ∙ w.units

    -- and stand where they stood
    stay : let results = unit_results w.before w.inside in results_from declarations (record spot { place = place }) (length results) ≡ results
    stay =
        let results = unit_results w.before w.inside in
        ap (λ (s : Texts). results_from s.declarations (record spot { place = place }) (length results)) new-is
        ∙ results-stay texts.declarations results (record spot { place = place }) results stood

    pub is-taken : IsTaken texts new kept (record spot { place = place })
    is-taken = record { there = w.before; inside = w.inside; placed = w.placed; result = w.result; whole = new-is; known = stood; units = stay }

-- ---- where it stands now

-- the same is kept of its units, and of the blocks in it
abbrev pub SameResults : Type 0
SameResults =
    (there here : List UnitFacts) (inside : Pieces) → IsPlaced there inside → IsPlaced here inside → block_result (block_at there inside) ≡ block_result (block_at here inside)
    → (unit_results there inside ≡ unit_results here inside) × (inner_results there inside ≡ inner_results here inside)

module _ (same : SameResults) (old new : Texts) (from : Spot) (here : List UnitFacts) (inside : Pieces) (placed : IsPlaced here inside) (taken : IsTaken old new (block_result (block_at here inside)) from) where
  pieces_are : taken.inside ≡ inside
  pieces_are = same-pieces taken.inside inside taken.placed.cut placed.cut (sym (ap (λ (k : BlockResult). k.text) taken.result))

  placed_there : IsPlaced taken.there inside
  placed_there = subst (IsPlaced taken.there) pieces_are taken.placed

  result_is : block_result (block_at taken.there inside) ≡ block_result (block_at here inside)
  result_is = ap (λ (p : Pieces). block_result (block_at taken.there p)) (sym pieces_are) ∙ sym taken.result

  pub whole-here : new ≡ with_whole old here inside
  whole-here =
      let both = same taken.there here inside placed_there placed result_is in
      let begin = length (last_draft old.declarations) in
      taken.whole
      ∙ ap (with_whole old taken.there) pieces_are
      ∙ (λ i. with_blocks (with_units old (both.0 i)) (both.1 i ++ result_is i ∷ []) (begins_in begin inside ++ begin ∷ []))

  pub units-here : results_from new.declarations from (length (unit_results here inside)) ≡ unit_results here inside
  units-here =
      let both = same taken.there here inside placed_there placed result_is in
      subst (λ (rs : List DeclarationResult). results_from new.declarations from (length rs) ≡ rs) (ap (unit_results taken.there) pieces_are ∙ both.0) taken.units

-- ---- the steps

-- the number of a block in a block, once others stand behind
module _ (stored : Stored ℕ) (part : Part) (after : part.inner ≤ part.spot.place) (long : length (inner_from stored part) ≡ part.inner) (nth : ℕ) (below : nth < part.inner) where
  pub number-there : (more : List ℕ) → result_on (grown stored more) (record part.spot { place = part.spot.place - part.inner + nth }) ≡ Some (get_or (inner_from stored part) nth 0)
  number-there more =
      let list = list_at (lists_among stored part.spot.is_draft) part.spot.list in
      let first = part.spot.place - part.inner in
      result-stays stored more (record part.spot { place = first + nth }) (get_or (inner_from stored part) nth 0)
      (sym (get-part list first part.inner nth below) ∙ slice_get-get_or (inner_from stored part) nth 0 (omega (arith, long, below)))

  pub number-is : (more : List ℕ) (begins : Stored ℕ) (found : Option ℕ) → begins ≡ grown stored more → found ≡ result_on begins (record part.spot { place = part.spot.place - part.inner + nth })
      → found ≡ Some (get_or (inner_from stored part) nth 0)
  number-is more begins found is there =
      let spot : Spot = record part.spot { place = part.spot.place - part.inner + nth } in
      there ∙ ap (λ (s : Stored ℕ). result_on s spot) is ∙ number-there more

  -- with it the numbers are more
  pub numbers-next : (f : ℕ → ℕ) (begins next : Stored ℕ) (number : ℕ) → begins ≡ grown stored (map f (take nth (inner_from stored part)))
      → result_on begins (record part.spot { place = part.spot.place - part.inner + nth }) ≡ Some number → next ≡ grown begins (f number ∷ [])
      → next ≡ grown stored (map f (take (nth + 1) (inner_from stored part)))
  numbers-next f begins next number so_far there is =
      let numbers = inner_from stored part in
      let spot : Spot = record part.spot { place = part.spot.place - part.inner + nth } in
      let same : number ≡ get_or numbers nth 0 =
      same_Some number (get_or numbers nth 0) (sym there ∙ ap (λ (s : Stored ℕ). result_on s spot) so_far ∙ number-there (map f (take nth numbers))) in
      is ∙ (λ i. grown (so_far i) (f (same i) ∷ []))
      ∙ grown-twice stored (map f (take nth numbers)) (f (get_or numbers nth 0) ∷ [])
      ∙ ap (grown stored) (sym (map_more f numbers nth 0 (omega (arith, long, below))))

-- the results behind which a draft's last ones stand
pub last-before : {X : Type 0} (drafts : List (ℕ × List X)) (added : List X) → length (last_of (with_results drafts added)) - length added ≡ length (last_of drafts)
last-before [] added = omega arith
last-before (d ∷ []) added =
    let long = length-append d.1 added in
    omega (arith, long)
last-before (d ∷ e ∷ []) added = last-before (e ∷ []) added
last-before (d ∷ e ∷ f ∷ drafts) added = last-before (e ∷ f ∷ drafts) added

-- one result that stands at a spot
pub one-from : {X : Type 0} (stored : Stored X) (spot : Spot) (x : X) → result_on stored spot ≡ Some x → results_from stored spot 1 ≡ x ∷ []
one-from stored spot x there =
    let list = list_at (lists_among stored spot.is_draft) spot.list in
    let at : spot.place + 0 ≡ spot.place = omega arith in
    sym (part-next list spot.place 0 x (ap (slice_get list) at ∙ there))

-- a block behind those in it
pub block-behind : {X : Type 0} (stored first next : Stored X) (inner : List X) (spot : Spot) (x : X) → result_on stored spot ≡ Some x → first ≡ grown stored inner → next ≡ grown first (results_from first spot 1)
    → next ≡ grown stored (inner ++ x ∷ [])
block-behind stored first next inner spot x there first_is next_is =
    let one : results_from first spot 1 ≡ x ∷ [] =
    one-from first spot x (ap (λ (s : Stored _). result_on s spot) first_is ∙ result-stays stored inner spot x there) in
    next_is ∙ (λ i. grown (first_is i) (one i)) ∙ grown-twice stored inner (x ∷ [])
