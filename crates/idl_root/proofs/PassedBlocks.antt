-- A block is passed, whichever way.
use Rattle.std.proofs.Common.{◌≡◌, ◌≤◌, ◌<◌, ◌∙◌, ◌+◌, ◌↔◌, arith, ℕ, Bool, true, false, Some, List, [], ◌∷◌, ◌++◌, append_assoc, get_or, length, map, refl, subst, sym, ap, if◌then◌else◌}
use Rattle.std.proofs.lemmas.List.{get_or-map, length-map, map-append}
use Rattle.std.proofs.lemmas.List.Elements.{All-from_get_or, All-get_or}
use Rattle.std.proofs.lemmas.List.Folds.{list_any_at, list_any_none}
use Rattle.std.specs.Option.{option_eq}
use Rattle.std.specs.Prelude.{All, Any, Contains}
use Rattle.idl_env.specs.Facts.{UnitFacts, answers}
use Rattle.idl_env.specs.SameAnswer.{answer_eq}
use Rattle.idl_env.specs.keys.Key.{key_eq}
use Rattle.idl_kept.specs.Texts.{BlockResult, Texts, with_whole}
use Rattle.idl_memo.specs.Fresh.{is_alike, log_at}
use Rattle.idl_memo.specs.Meter.{compared_after, most_compared}
use Rattle.idl_memo.specs.declared.meter.Meter.{Meter}
use Rattle.idl_root.proofs.BlockLemmas.{places-are, spot-among, whole-kept}
use Rattle.idl_root.proofs.PiecesLemmas.{compared-none, facts-inside}
use Rattle.idl_root.proofs.WholeLemmas.{block-holds}
use Rattle.idl_root.specs.Followed.{IsKeeping}
use Rattle.idl_root.specs.Passed.{AllGoOn, ArePassed, keys_behind}
use Rattle.idl_root.specs.Results.{ChecksOnly, IsDeclarationPass, marks_in, part_mark}
use Rattle.idl_root.specs.declared.kept.keeping.Keeping.{Keeping}
use Rattle.idl_root.specs.declared.kept.marks.Mark.{Mark}
use Rattle.idl_root.specs.declared.kept.marks.Mark.TheVariants.{Entered, Left}
use Rattle.idl_root_blocks.proofs.Cuts.{cut-whole}
use Rattle.idl_root_blocks.proofs.Meets.{met-block}
use Rattle.idl_root_blocks.specs.Blocks.{Block, Nothing, Pieces, cut, text_in}
use Rattle.idl_root_blocks.specs.Met.{IsLike, Known, MetBlock, alike_block, block_text_eq, compared, is_known, met_over, outermost_keys, shared_by, with_block}
use Rattle.idl_root_blocks.specs.Places.{BlockPlace, DeclarationPlace, block_at, block_query, block_result, declarations_over, facts_behind, with_entering}
use Rattle.idl_root_blocks.specs.declared.text.BlockPart.{BlockPart as Part}
use Rattle.idl_root_blocks.specs.declared.text.BlockPart.TheVariants.{Enters, Leaves}
use Rattle.idl_store.specs.Spots.{result_on}
use Rattle.idl_store.specs.Stored.{results_in}
use Rattle.idl_store.specs.declared.numbers.Spot.{Spot}

module _ (asks : (here : BlockPlace) → (block_result here).log ≡ log_at key_eq block_query here) (facts : List UnitFacts) (text : List Part) where
  abbrev own : Pieces
  own = cut text

  abbrev pieces : Pieces
  pieces = Block own Nothing

  whole-text : text_in pieces ≡ Enters false ∷ (text ++ Leaves false ∷ [])
  whole-text = ap (λ (t : List Part). Enters false ∷ (t ++ Leaves false ∷ [])) (cut-whole text)

  -- its keys are asked outside blocks
  pub keys-block : length (block_result (text, answers facts)).log ≡ outermost_keys facts pieces
  keys-block =
      let here : length (block_result (text, answers facts)).log ≡ length (log_at key_eq block_query (text_in own, answers facts)) =
      ap (λ l. length l) (asks (text, answers facts)) ∙ ap (λ (t : List Part). length (log_at key_eq block_query (t, answers facts))) (sym (cut-whole text)) in
      omega (arith, here)

  marks-whole : (marks : List Mark) → ((marks ++ Entered false ∷ []) ++ marks_in text) ++ Left false ∷ [] ≡ marks ++ marks_in (text_in pieces)
  marks-whole marks =
      append_assoc (marks ++ Entered false ∷ []) (marks_in text) (Left false ∷ [])
      ∙ append_assoc marks (Entered false ∷ []) (marks_in text ++ Left false ∷ [])
      ∙ ap (λ (ms : List Mark). marks ++ Entered false ∷ ms) (sym (map-append part_mark text (Leaves false ∷ [])))
      ∙ ap (λ (t : List Part). marks ++ marks_in t) (sym whole-text)

  pub passed-block : (kept new : Texts) (old behind : Keeping) → new ≡ with_whole kept facts own
      → behind.marks.items ≡ ((old.marks.items ++ Entered false ∷ []) ++ marks_in text) ++ Left false ∷ []
      → IsKeeping kept.declarations.lists behind (facts_behind facts own) → behind.earlier ≡ old.earlier
      → IsDeclarationPass (declarations_over (with_entering facts) (text_in own)) (results_in kept.declarations) (results_in new.declarations) old.meter.checked behind.meter.checked
      → ChecksOnly old.meter behind.meter
      → AllGoOn facts (Enters false ∷ (text ++ Leaves false ∷ [])) old.blocks.blocks behind.blocks.blocks
      → (old.keys ≤ most_compared → behind.keys ≡ keys_behind old.blocks.blocks old.keys (length (block_result (text, answers facts)).log))
      → ArePassed facts pieces kept old new behind
  passed-block kept new old behind grows marks walks earlier counts others blocks keys = record {
    kept_is = grows ∙ whole-kept kept facts own;
    marks = marks ∙ marks-whole old.marks.items;
    keeping_is = subst (IsKeeping kept.declarations.lists behind) (sym (facts-inside own Nothing facts)) walks;
    earlier = earlier;
    counts =
        subst (λ (places : List DeclarationPlace). IsDeclarationPass places (results_in kept.declarations) (results_in new.declarations) old.meter.checked behind.meter.checked)
        (sym (places-are kept facts own)) counts;
    others = others;
    blocks = subst (λ (t : List Part). AllGoOn facts t old.blocks.blocks behind.blocks.blocks) (sym whole-text) blocks;
    keys = λ within. keys within ∙ ap (keys_behind old.blocks.blocks old.keys) keys-block;
  }

  -- ---- what is compared

  met-whole : (known : Known) (b : Bool) → is_known known.blocks (block_at facts own) ≡ b
      → compared (met_over known facts pieces)
      ≡ (if b then outermost_keys facts pieces else 0) + (if b then 0 else compared (met_over known (with_entering facts) own))
  met-whole known b is =
      let whole : compared (met_over known facts pieces)
      ≡ shared_by (MetBlock known.blocks (block_at facts own))
      + ((if is_known known.blocks (block_at facts own) then 0 else compared (met_over known (with_entering facts) own)) + compared (met_over (with_block known facts own) (facts_behind facts own) Nothing)) =
      met-block known facts own Nothing in
      let none = compared-none (with_block known facts own) (facts_behind facts own) in
      by b is whole none
    where
      by : (b : Bool) → is_known known.blocks (block_at facts own) ≡ b
          → compared (met_over known facts pieces)
          ≡ shared_by (MetBlock known.blocks (block_at facts own))
          + ((if is_known known.blocks (block_at facts own) then 0 else compared (met_over known (with_entering facts) own)) + compared (met_over (with_block known facts own) (facts_behind facts own) Nothing))
          → compared (met_over (with_block known facts own) (facts_behind facts own) Nothing) ≡ 0
          → compared (met_over known facts pieces) ≡ (if b then outermost_keys facts pieces else 0) + (if b then 0 else compared (met_over known (with_entering facts) own))
      by b is whole none =
          let shared : shared_by (MetBlock known.blocks (block_at facts own)) ≡ (if b then length (log_at key_eq block_query (block_at facts own)) else 0) =
          ap (λ (t : Bool). if t then length (log_at key_eq block_query (block_at facts own)) else 0) is in
          let nested : (if is_known known.blocks (block_at facts own) then 0 else compared (met_over known (with_entering facts) own)) ≡ (if b then 0 else compared (met_over known (with_entering facts) own)) =
          ap (λ (t : Bool). if t then 0 else compared (met_over known (with_entering facts) own)) is in
          let keys : (if b then length (log_at key_eq block_query (block_at facts own)) else 0) ≡ (if b then outermost_keys facts pieces else 0) =
          (let same : length (log_at key_eq block_query (block_at facts own)) ≡ outermost_keys facts pieces = omega arith in ap (λ n. if b then n else 0) same) in
          omega (arith, whole, none, shared, nested, keys)

  -- one that is taken whole
  pub compares-taken : (known : Known) (old behind : Meter) → is_known known.blocks (block_at facts own) ≡ true
      → behind.compared ≡ compared_after old.compared (length (block_result (text, answers facts)).log)
      → behind.compared ≡ compared_after old.compared (compared (met_over known facts pieces))
  compares-taken known old behind is counts =
      let met = met-whole known true is in
      let same : length (block_result (text, answers facts)).log ≡ compared (met_over known facts pieces) = omega (arith, keys-block, met) in
      counts ∙ ap (compared_after old.compared) same

  -- one that is entered and left
  pub compares-left : (known : Known) (old behind : Meter) → is_known known.blocks (block_at facts own) ≡ false
      → behind.compared ≡ compared_after old.compared (compared (met_over known (with_entering facts) own))
      → behind.compared ≡ compared_after old.compared (compared (met_over known facts pieces))
  compares-left known old behind is counts =
      let met = met-whole known false is in
      let same : compared (met_over known (with_entering facts) own) ≡ compared (met_over known facts pieces) = omega (arith, met) in
      counts ∙ ap (compared_after old.compared) same

  -- one of which it was asked whether it is alike to a known one: if so it is compared as a whole, and else what is inside
  pub compares-entered : (known : Known) (old behind : Meter) (is_like : Bool) (inside keys : ℕ)
      → (is_like ≡ true → is_known known.blocks (text, answers facts) ≡ true) → (is_like ≡ false → is_known known.blocks (text, answers facts) ≡ false)
      → keys ≡ length (block_result (text, answers facts)).log
      → inside ≡ compared_after old.compared (compared (met_over known (with_entering facts) own))
      → behind.compared ≡ (if is_like then compared_after old.compared keys else inside)
      → behind.compared ≡ compared_after old.compared (compared (met_over known facts pieces))
  compares-entered known old behind true inside keys is none asked within counts =
      compares-taken known old behind (ap (λ u. is_known known.blocks (u, answers facts)) (cut-whole text) ∙ is refl) (counts ∙ ap (compared_after old.compared) asked)
  compares-entered known old behind false inside keys some is asked within counts =
      compares-left known old behind (ap (λ u. is_known known.blocks (u, answers facts)) (cut-whole text) ∙ is refl) (counts ∙ within)

-- ---- whether one is known

not-true : (b : Bool) → (b ≡ true → ⊥) → b ≡ false
not-true true never = absurd (never refl)
not-true false never = refl

module _ (tells : (here task : BlockPlace) → IsLike here (block_result task) ↔ (is_alike block_text_eq (option_eq answer_eq) block_query here task ≡ true)) (known : List BlockPlace) (here : BlockPlace) where
  pub is-known : Any (IsLike here) (map block_result known) → is_known known here ≡ true
  is-known a =
      let at : a.0 < length known = omega (arith, a.2, length-map known block_result) in
      let same : block_result (get_or known a.0 here) ≡ a.1 = sym (get_or-map block_result known a.0 here a.1 at) ∙ a.3 in
      list_any_at (alike_block here) known a.0 here at ((tells here (get_or known a.0 here)).0 (subst (IsLike here) (sym same) a.4))

  pub is-new : All (λ kept. ¬ IsLike here kept) (map block_result known) → is_known known here ≡ false
  is-new none =
      list_any_none (alike_block here) known (All-from_get_or (λ task. alike_block here task ≡ false) known here (λ k below.
      let there : k < length (map block_result known) = omega (arith, below, length-map known block_result) in
      let other : ¬ IsLike here (block_result (get_or known k here)) =
      subst (λ r. ¬ IsLike here r) (get_or-map block_result known k here (block_result here) below) (All-get_or (λ kept. ¬ IsLike here kept) (map block_result known) k (block_result here) there none) in
      not-true (alike_block here (get_or known k here)) (λ is. other ((tells here (get_or known k here)).1 is))))

-- what stands at a spot is alike where it is the result of that place
pub some-on : (kept : Texts) (spot : Spot) (facts : List UnitFacts) (text : List Part) → result_on kept.blocks spot ≡ Some (block_result (text, answers facts)) → Any (IsLike (text, answers facts)) (results_in kept.blocks)
some-on kept spot facts text is =
    let here : BlockResult = block_result (text, answers facts) in
    let c : Contains (results_in kept.blocks) here = spot-among kept.blocks spot here is in
    (c.0, here, c.1, c.2, record { text_is = refl; answers = block-holds text facts })
