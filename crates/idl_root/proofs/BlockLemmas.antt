-- A block that is passed: taken whole, or entered and left.
use Rattle.std.proofs.Common.{◌≡◌, ◌⊎◌, ◌∙◌, ◌+◌, arith, inl, ℕ, zero, suc, Bool, true, false, List, [], ◌∷◌, ◌++◌, Some, append-nil, append_assoc, drop, flat_map, length, map, refl, subst, sym, take, ap}
use Rattle.std.specs.Prelude.{All, Contains}
use Rattle.std.proofs.Math.Seq.{drop-append_seam, take-append_seam}
use Rattle.std.proofs.lemmas.List.{length-append, map-append, take-append-drop}
use Rattle.std.proofs.lemmas.List.Elements.{All-contains_itself, All-head, All-tail, All-weaker, Contains-append_left, Contains-append_right}
use Rattle.std.proofs.lemmas.List.Folds.{flat_map-map}
use Rattle.idl_root_blocks.specs.verdicts.Standing.{unit_asks}
use Rattle.idl_env.specs.Facts.{UnitFacts}
use Rattle.idl_env.specs.SameKey.{same_key}
use Rattle.idl_env.specs.keys.Digested.{key_equiv}
use Rattle.idl_env.specs.keys.Key.{key_eq}
use Rattle.idl_kept.specs.Texts.{DeclarationResult, IsLast, Texts, begins_in, inner_results, unit_results, with_blocks, with_units, with_whole}
use Rattle.idl_memo.proofs.QueryLaws.{IsLogOf-run}
use Rattle.idl_memo.specs.Kept.{IsAlike, NoneAlikeAt, SomeAlikeAt}
use Rattle.idl_root.proofs.PiecesLemmas.{draft-grown}
use Rattle.idl_root.proofs.StoredLemmas.{grown-grown, item-drop}
use Rattle.idl_scope.proofs.Constructors.{head_same}
use Rattle.idl_root.specs.Passed.{HasDrafts, keys_behind, with_kept}
use Rattle.idl_root.specs.Results.{IsDeclarationPass}
use Rattle.idl_root_blocks.proofs.Wholes.{blocks-block, blocks-none, declarations-block, declarations-none}
use Rattle.idl_root_blocks.specs.Blocks.{Block, Nothing, Pieces, text_in}
use Rattle.idl_root_blocks.specs.Places.{BlockPlace, DeclarationPlace, block_at, block_result, blocks_over, declaration_result, declarations_over, facts_behind, with_entering}
use Rattle.idl_root_blocks.specs.Asking.{OpenBlock}
use Rattle.idl_store.specs.Spots.{lists_among, result_on, results_from}
use Rattle.idl_store.specs.Stored.{Stored, grown, last_draft, list_at, results_in, results_of_drafts}
use Rattle.idl_store.specs.declared.numbers.Spot.{Spot}

-- what stands before a last item, and that
pub snoc-same : {X : Type 0} (xs ys : List X) (x y : X) → xs ++ x ∷ [] ≡ ys ++ y ∷ [] → (xs ≡ ys) × (x ≡ y)
snoc-same xs ys x y h =
    let one = length-append xs (x ∷ []) in
    let two = length-append ys (y ∷ []) in
    let all = ap (λ l. length l) h in
    let long : length xs ≡ length ys = omega (arith, one, two, all) in (
      sym (take-append_seam xs (x ∷ [])) ∙ (λ i. take (long i) (h i)) ∙ take-append_seam ys (y ∷ []),
      head_same (sym (drop-append_seam xs (x ∷ [])) ∙ (λ i. drop (long i) (h i)) ∙ drop-append_seam ys (y ∷ [])),
    )

-- ---- what stands in a store

module _ {X : Type 0} where
  part-within : (n m : ℕ) (xs : List X) (x : X) → Contains (take n (drop m xs)) x → Contains xs x
  part-within n m xs x there =
      subst (λ (l : List X). Contains l x) (take-append-drop m xs)
      (Contains-append_right (take m xs) (drop m xs) x
      (subst (λ (l : List X). Contains l x) (take-append-drop n (drop m xs)) (Contains-append_left (take n (drop m xs)) (drop n (drop m xs)) x there)))

  among-lists : (lists : List (List X)) (list : ℕ) (x : X) → Contains (list_at lists list) x → Contains (flat_map (λ items. items) lists) x
  among-lists [] list x there = there
  among-lists (items ∷ lists) zero x there = Contains-append_left items (flat_map (λ items. items) lists) x there
  among-lists (items ∷ lists) (suc list) x there = Contains-append_right items (flat_map (λ items. items) lists) x (among-lists lists list x there)

  among-all : (stored : Stored X) (is_draft : Bool) (x : X) → Contains (flat_map (λ items. items) (lists_among stored is_draft)) x → Contains (results_in stored) x
  among-all stored true x there =
      Contains-append_right (flat_map (λ items. items) stored.lists) (results_of_drafts stored.drafts) x
      (subst (λ (l : List X). Contains l x) (flat_map-map (λ items. items) (λ (d : ℕ × List X). d.1) stored.drafts) there)
  among-all stored false x there = Contains-append_left (flat_map (λ items. items) stored.lists) (results_of_drafts stored.drafts) x there

  -- what stands from a spot on is among all results
  pub from-among : (stored : Stored X) (spot : Spot) (count : ℕ) → All (Contains (results_in stored)) (results_from stored spot count)
  from-among stored spot count =
      All-weaker (Contains (results_from stored spot count)) (Contains (results_in stored))
      (λ x there. among-all stored spot.is_draft x
      (among-lists (lists_among stored spot.is_draft) spot.list x (part-within count spot.place (list_at (lists_among stored spot.is_draft) spot.list) x there)))
      (results_from stored spot count) (All-contains_itself (results_from stored spot count))

  -- the first of it, and what stands behind that
  pub from-next : (stored : Stored X) (spot : Spot) (x : X) (count : ℕ) → result_on stored spot ≡ Some x
      → results_from stored spot (suc count) ≡ x ∷ results_from stored (record spot { place = spot.place + 1 }) count
  from-next stored spot x count is = ap (λ (l : List X). take (suc count) l) (item-drop (lists_among stored spot.is_draft) spot.list spot.place x is)

  -- what stands at one is
  pub spot-among : (stored : Stored X) (spot : Spot) (x : X) → result_on stored spot ≡ Some x → Contains (results_in stored) x
  spot-among stored spot x is =
      All-head (Contains (results_in stored)) x [] (subst (All (Contains (results_in stored))) (from-next stored spot x 0 is) (from-among stored spot 1))

-- ---- units of which each is known

-- the result of a place is alike there
pub own-alike : (here : DeclarationPlace) → IsAlike here.0 here.1 (declaration_result here)
own-alike here = record { text_is = refl; answers = (IsLogOf-run key_eq key_equiv.refl same_key (unit_asks here.0) here.1).answers }

module _ (none : (old : List DeclarationResult) (count : ℕ) → IsDeclarationPass [] old old count count)
    (one : (here : DeclarationPlace) (old new : List DeclarationResult) (before after : ℕ) → new ≡ old ++ declaration_result here ∷ []
    → (SomeAlikeAt here old × (after ≡ before)) ⊎ (NoneAlikeAt here old × (after ≡ before + 1)) → IsDeclarationPass (here ∷ []) old new before after)
    (both : (first second : List DeclarationPlace) (old between new : List DeclarationResult) (before at after : ℕ) → IsDeclarationPass first old between before at
    → IsDeclarationPass second between new at after → IsDeclarationPass (first ++ second) old new before after)
  where
    -- none of them is run
    pub pass-known : (places : List DeclarationPlace) (old : List DeclarationResult) (count : ℕ) → All (Contains old) (map declaration_result places)
        → IsDeclarationPass places old (old ++ map declaration_result places) count count
    pass-known [] old count all = subst (λ rs. IsDeclarationPass [] old rs count count) (sym (append-nil old)) (none old count)
    pass-known (here ∷ places) old count all =
        let own : DeclarationResult = declaration_result here in
        let rest : List DeclarationResult = map declaration_result places in
        let next : List DeclarationResult = old ++ own ∷ [] in
        let c : Contains old own = All-head (Contains old) own rest all in
        let some : SomeAlikeAt here old = (c.0, own, c.1, c.2, own-alike here) in
        both (here ∷ []) places old next (old ++ own ∷ rest) count count count (one here old next count count refl (inl (some, refl)))
        (subst (λ rs. IsDeclarationPass places next rs count count) (append_assoc old (own ∷ []) rest)
        (pass-known places next count
        (All-weaker (Contains old) (Contains next) (λ x there. Contains-append_left old (own ∷ []) x there) rest (All-tail (Contains old) own rest all))))

-- ---- what is kept of a block

module _ (kept : Texts) (facts : List UnitFacts) (inside : Pieces) where
  abbrev begin : ℕ
  begin = length (last_draft kept.declarations)

  pub places-are : declarations_over facts (text_in (Block inside Nothing)) ≡ declarations_over (with_entering facts) (text_in inside)
  places-are =
      declarations-block inside Nothing facts
      ∙ ap (λ (places : List DeclarationPlace). declarations_over (with_entering facts) (text_in inside) ++ places) (declarations-none (facts_behind facts inside))
      ∙ append-nil (declarations_over (with_entering facts) (text_in inside))

  units-are : map declaration_result (declarations_over facts (text_in (Block inside Nothing))) ≡ unit_results facts inside
  units-are = ap (map declaration_result) places-are

  blocks-are : map block_result (blocks_over facts (Block inside Nothing)) ≡ inner_results facts inside ++ block_result (block_at facts inside) ∷ []
  blocks-are =
      let inner : List BlockPlace = blocks_over (with_entering facts) inside in
      ap (map block_result)
      (blocks-block inside Nothing facts ∙ ap (λ (places : List BlockPlace). inner ++ block_at facts inside ∷ places) (blocks-none (facts_behind facts inside)))
      ∙ map-append block_result inner (block_at facts inside ∷ [])

  -- all of it, whether it is taken whole
  pub whole-kept : with_whole kept facts inside ≡ with_kept kept facts (Block inside Nothing)
  whole-kept = λ i. with_blocks (with_units kept (sym units-are i)) (sym blocks-are i) (begins_in begin inside ++ begin ∷ [])

  -- or it comes behind what is kept of its units
  pub left-kept : with_blocks (with_kept kept (with_entering facts) inside) (block_result (block_at facts inside) ∷ []) (begin ∷ []) ≡ with_whole kept facts inside
  left-kept = λ i. record {
    declarations = grown kept.declarations (unit_results facts inside);
    blocks = grown-grown kept.blocks (inner_results facts inside) (block_result (block_at facts inside) ∷ []) i;
    begins = grown-grown kept.begins (begins_in begin inside) (begin ∷ []) i;
  }

  pub last-kept : HasDrafts kept → IsLast (with_kept kept (with_entering facts) inside) begin facts inside
  last-kept has =
      let drafted : List DeclarationResult = last_draft kept.declarations in
      let own : List DeclarationResult = unit_results facts inside in
      let more : last_draft (grown kept.declarations own) ≡ drafted ++ own = draft-grown kept.declarations own has.declarations in
      let long : length (last_draft (grown kept.declarations own)) ≡ length drafted + length own = ap (λ (rs : List DeclarationResult). length rs) more ∙ length-append drafted own in
      record {
        units = ap (λ (rs : List DeclarationResult). drop begin rs) more ∙ drop-append_seam drafted own;
        within = omega (arith, long);
        earlier = last_draft kept.blocks;
        inner = draft-grown kept.blocks (inner_results facts inside) has.blocks;
        numbers = last_draft kept.begins;
        begins = draft-grown kept.begins (begins_in begin inside) has.begins;
      }

-- ---- what is asked outside blocks

-- in a block nothing is
pub keys-inside : (blocks : List OpenBlock) (block : OpenBlock) (keys more : ℕ) → keys_behind (blocks ++ block ∷ []) keys more ≡ keys
keys-inside [] block keys more = refl
keys-inside (other ∷ blocks) block keys more = refl

-- and it hangs on no block what is
pub keys-by : (blocks : List OpenBlock) (by : OpenBlock → OpenBlock) (keys more : ℕ) → keys_behind (map by blocks) keys more ≡ keys_behind blocks keys more
keys-by [] by keys more = refl
keys-by (block ∷ blocks) by keys more = refl
