-- A block asks what its units ask and it has not written before.
use Rattle.std.proofs.Common.{◌≡◌, ◌≤◌, ◌<◌, ◌^◌, ◌∙◌, ◌||◌, Bool, false, true, cond, map, not, List, [], ◌∷◌, ◌++◌, Option, Some, length, refl, subst, sym, ap}
use Rattle.std.proofs.lemmas.List.Elements.{All-head, All-tail}
use Rattle.std.proofs.lemmas.List.Folds.{list_any-append}
use Rattle.std.specs.List.{filter, list_any}
use Rattle.std.specs.Prelude.{◌↔◌, if◌then◌else◌, is_some}
use Rattle.idl_asked.specs.Blocks.{AreBlocksOf, IsBlockOf, added_at, asked_at, behind, block_log, closing_keys, outer_keys, step_keys, written_keys}
use Rattle.idl_block.proofs.JoinedLaws.{ended, ended-part, outer-joined, outer-unit}
use Rattle.idl_block.specs.Behind.{laid}
use Rattle.idl_block.specs.Blocks.{Text as UnitPart}
use Rattle.idl_block.specs.Questions.{AreOver, IsOver, befores, outer_asked, unwritten, written_after}
use Rattle.idl_block.specs.facts.Answered.{answered}
use Rattle.idl_block.specs.facts.Beneath.{start}
use Rattle.idl_block.specs.facts.Written.{is_written}
use Rattle.idl_check_laws.specs.Closing.{AreTold}
use Rattle.idl_env.specs.Facts.{UnitFacts, World, addition_at, after, answers, boundary, closing, count_in, key_of, nameless, path_around, scopes_in, unstopped, with_additions}
use Rattle.idl_env.specs.Turns.{most_turns, turns_for}
use Rattle.idl_env.specs.Written.{closes_at, is_added, steps_at, written_from}
use Rattle.idl_env.specs.declared.additions.addition.Addition.{Addition}
use Rattle.idl_env.specs.declared.additions.addition.Step.{Step}
use Rattle.idl_env.specs.declared.additions.addition.Step.TheVariants.{Closes, Enters as EntersFile, Leaves as LeavesFile, Opens, OpensNameless, Stays}
use Rattle.idl_env.specs.declared.answering.answer.Answer.{Answer}
use Rattle.idl_env.specs.declared.answering.answer.Scope.{Scope}
use Rattle.idl_env.specs.declared.keys.key.Key.{Key}
use Rattle.idl_env.specs.declared.keys.key.Key.TheVariants.{Cursor, Nameless, Opened, Prefix as PrefixKey}
use Rattle.idl_env.specs.keys.Key.{key_eq}
use Rattle.idl_memo.specs.Fresh.{log_at}
use Rattle.idl_memo.specs.Query.{HoldsIn, asked, noted_all, outcome}
use Rattle.idl_root_blocks.proofs.Comes.{of-block}
use Rattle.idl_root_blocks.specs.Blocks.{AreCut, Block, IsOfBlock, Loose, Nothing, Pieces, parts_of, plain_text, text_in}
use Rattle.idl_root_blocks.specs.Met.{IsLike, MetBlock, alike_block, block_keys, is_known, shared_by}
use Rattle.idl_root_blocks.specs.Outer.{Log, outer_log}
use Rattle.idl_root_blocks.specs.Places.{AreStandingOver, BlockEnd, BlockPlace, ComesTo, Stands, block_query, block_result, facts_behind, facts_over, unit_ways, with_entering}
use Rattle.idl_root_blocks.specs.declared.text.BlockPart.{BlockPart}
use Rattle.idl_root_blocks.specs.declared.text.BlockPart.TheVariants.{Text, Enters, Leaves}
use Rattle.idl_root_blocks.specs.verdicts.Standing.{IsBlockFront, block_end, unit_asks}

-- what a text adds
pub facts-behind : (facts : List UnitFacts) (text : List BlockPart) → facts_over facts text ≡ behind facts text
facts-behind facts [] = refl
facts-behind facts (Text unit ∷ text) = facts-behind (facts ++ added_at facts (Text unit) ∷ []) text
facts-behind facts (Enters inside ∷ text) = facts-behind (facts ++ boundary EntersFile ∷ []) text
facts-behind facts (Leaves inside ∷ text) = facts-behind (facts ++ boundary LeavesFile ∷ []) text

-- ---- where facts write

or-ends : (b : Bool) → (b || false) ≡ b
or-ends true = refl
or-ends false = refl

or-joins : (a b c : Bool) → ((a || b) || c) ≡ (a || (b || c))
or-joins true b c = refl
or-joins false b c = refl

module _ (k : Key) where
  abbrev among : List Key → Bool
  among keys = list_any (key_eq k) keys

  added-told : (additions : List Addition) → is_added additions k ≡ among (map key_of additions)
  added-told [] = refl
  added-told (a ∷ additions) = by (key_eq k (key_of a)) (added-told additions)
    where
      by : (b : Bool) → is_added additions k ≡ among (map key_of additions) → is_some (cond b (Some a) (addition_at additions k)) ≡ (b || among (map key_of additions))
      by true more = refl
      by false more = more

  closing-told : (w : World) (scopes : List Scope) → closes_at w scopes k ≡ among (closing_keys w scopes)
  closing-told w [] = refl
  closing-told w (s ∷ []) = refl
  closing-told w (s ∷ t ∷ outer) = ap (λ b. key_eq k PrefixKey || (key_eq k Cursor || b)) (added-told (closing w s))

  step-told : (w : World) (s : Step) → steps_at w s k ≡ among (step_keys w s)
  step-told w Stays = refl
  step-told w (Opens path kind) = ap (λ b. key_eq k Cursor || b) (sym (or-ends (key_eq k (Opened path))))
  step-told w (OpensNameless kind) =
      let path = nameless (count_in (w.answers Nameless)) ∷ path_around (scopes_in (w.answers Cursor)) in
      ap (λ b. key_eq k Nameless || (key_eq k Cursor || b)) (sym (or-ends (key_eq k (Opened path))))
  step-told w Closes = closing-told w (scopes_in (w.answers Cursor))
  step-told w other = sym (or-ends (key_eq k PrefixKey))

  written-told : (w : World) (facts : List UnitFacts) → written_from w facts k ≡ among (written_keys w facts)
  written-told w [] = refl
  written-told w (f ∷ facts) =
      let adds = map key_of (unstopped w.answers f.additions) in
      let steps = step_keys (with_additions f.additions w) f.step in
      let more = written_keys (after w f) facts in
      (λ i. (added-told (unstopped w.answers f.additions) i || step-told (with_additions f.additions w) f.step i) || written-told (after w f) facts i)
      ∙ or-joins (among adds) (among steps) (among more)
      ∙ sym (list_any-append (key_eq k) adds (steps ++ more) ∙ ap (λ b. among adds || b) (list_any-append (key_eq k) steps more))

-- ---- what a block asks

-- its keys, where what the block has written lies over what stands before it
outer-plain : (before : List UnitFacts) (text : List BlockPart) (own : List UnitFacts) → AreOver unit_ways answers before (parts_of text) own
    → outer_asked unit_ways (parts_of text) own (answers before) ≡ outer_keys before own text
outer-plain before [] own over = refl
outer-plain before (Enters inside ∷ text) own over =
    let next : List UnitFacts = own ++ boundary EntersFile ∷ [] in
    outer-plain before text next (All-tail (IsOver unit_ways answers before) own (befores unit_ways (parts_of text) next (answers before)) over)
outer-plain before (Leaves inside ∷ text) own over =
    let next : List UnitFacts = own ++ boundary LeavesFile ∷ [] in
    outer-plain before text next (All-tail (IsOver unit_ways answers before) own (befores unit_ways (parts_of text) next (answers before)) over)
outer-plain before (Text unit ∷ text) own over =
    let bank : Key → Option Answer = answers before in
    let there : Key → Option Answer = laid answered own bank in
    let next : List UnitFacts = written_after unit_ways (UnitPart unit) own bank in
    let others : List (List UnitFacts) = befores unit_ways (parts_of text) next bank in
    let same : there ≡ answers (before ++ own) = λ i k. All-head (IsOver unit_ways answers before) own others over k i in
    let keys : List Key = unwritten unit_ways own bank (asked (unit_asks unit) there) in
    outer-joined unit_ways bank (UnitPart unit ∷ []) (parts_of text) own
    ∙ ap (λ ks. ks ++ outer_asked unit_ways (parts_of text) (ended unit_ways bank (UnitPart unit ∷ []) own) bank) (outer-unit unit_ways bank unit own)
    ∙ ap (λ (ws : List UnitFacts). keys ++ outer_asked unit_ways (parts_of text) ws bank) (ended-part unit_ways bank (UnitPart unit) [] own)
    ∙ ap (λ ks. keys ++ ks) (outer-plain before text next (All-tail (IsOver unit_ways answers before) own others over))
    ∙ ap (λ (b : Key → Option Answer). filter (λ k. not (is_written own bank k)) (asked (unit_asks unit) b) ++ outer_keys before (own ++ (outcome (unit_asks unit) b).writes ∷ []) text) same
    ∙ ap (λ (test : Key → Bool). filter test (asked_at (before ++ own) (Text unit)) ++ outer_keys before (own ++ added_at (before ++ own) (Text unit) ∷ []) text) (λ i k. not (written-told k (start bank) own i))

-- ---- a block that stands in a root

abbrev Lies : Type 0
Lies = (before : List UnitFacts) (text : List BlockPart) → IsBlockFront (parts_of text) → Stands before text
    → AreOver unit_ways answers before (parts_of text) (boundary EntersFile ∷ [])

abbrev Stand : Type 0
Stand = (before : List UnitFacts) (text : List BlockPart) → IsBlockFront (parts_of text) → AreTold before
    → turns_for (facts_over (with_entering before) text) ≤ most_turns
    → count_in (answers (facts_over (with_entering before) text) Nameless) < 2 ^ 64 → Stands before text

abbrev Left : Type 0
Left = (before : List UnitFacts) (text : List BlockPart) → IsBlockFront (parts_of text) → Stands before text
    → (block_result (text, answers before)).log ≡ outer_log before text

module _ (lies : Lies) (stand : Stand) (left : Left) (before : List UnitFacts) (text : List BlockPart) (is : IsBlockOf before text) where
  stands : Stands before text
  stands =
      let same = sym (facts-behind (with_entering before) text) in
      stand before text (of-block text is.block) is.told
      (subst (λ (fs : List UnitFacts). turns_for fs ≤ most_turns) same is.turns)
      (subst (λ (fs : List UnitFacts). count_in (answers fs Nameless) < 2 ^ 64) same is.nameless)

  pub log-plain : (block_result (text, answers before)).log ≡ block_log before text
  log-plain =
      left before text (of-block text is.block) stands
      ∙ ap (noted_all key_eq (answers before) []) (outer-plain before text (boundary EntersFile ∷ []) (lies before text (of-block text is.block) stands))

  pub kept-plain : block_result (text, answers before) ≡ record { text = text; log = block_log before text; out = tt }
  kept-plain = ap (λ (log : Log). record { text = text; log = log; out = tt }) log-plain

  pub alike-plain : (here : BlockPlace) → (IsLike here (block_result (text, answers before)) ↔ (alike_block here (text, answers before) ≡ true))
      → (alike_block here (text, answers before) ≡ true) ↔ ((plain_text text ≡ plain_text here.0) × HoldsIn here.1 (block_log before text))
  alike-plain here kept = (
    λ alike. (let like = kept.1 alike in (like.text_is, subst (HoldsIn here.1) log-plain like.answers)),
    λ h. kept.0 (record { text_is = h.0; answers = subst (HoldsIn here.1) (sym log-plain) h.1 }),
  )

  pub shared-plain : (known : List BlockPlace) → ((block_result (text, answers before)).log ≡ log_at key_eq block_query (text, answers before))
      → shared_by (MetBlock known (text, answers before)) ≡ (if is_known known (text, answers before) then length (block_log before text) else 0)
  shared-plain known asks = ap (λ (log : Log). if is_known known (text, answers before) then length log else 0) (sym asks ∙ log-plain)

  pub keys-plain : ((block_result (text, answers before)).log ≡ log_at key_eq block_query (text, answers before)) → block_keys (text, answers before) ≡ length (block_log before text)
  keys-plain asks = ap (λ (log : Log). length log) (sym asks ∙ log-plain)

-- ---- the blocks of a root

abbrev Here : Type 0
Here = (before : List UnitFacts) (text : List BlockPart) → IsOfBlock text → Stands before text
    → ComesTo before text (block_end (answers before) (parts_of text))

one-block : Here → (before : List UnitFacts) (text : List BlockPart) → IsOfBlock text → Stands before text → IsBlockOf before text
one-block here before text block stands =
    let same : before ++ (block_end (answers before) (parts_of text)).1 ≡ behind (with_entering before) text =
    sym (ap (λ (r : BlockEnd). r.1) (here before text block stands)) ∙ facts-behind (with_entering before) text in
    record {
      block = block;
      told = stands.told;
      turns = subst (λ (fs : List UnitFacts). turns_for fs ≤ most_turns) same stands.turns;
      nameless = subst (λ (fs : List UnitFacts). count_in (answers fs Nameless) < 2 ^ 64) same stands.count;
    }

pub each-block : Here → (facts : List UnitFacts) (pieces : Pieces) → AreCut pieces → AreStandingOver facts pieces → AreBlocksOf facts pieces
each-block here facts Nothing cut stand = tt
each-block here facts (Loose part pieces) cut stand = each-block here (facts_over facts (part ∷ [])) pieces cut.1 stand
each-block here facts (Block inside pieces) cut stand = (
  one-block here facts (text_in inside) cut.0 stand.0,
  (each-block here (with_entering facts) inside cut.1.0 stand.1.0, each-block here (facts_behind facts inside) pieces cut.1.1 stand.1.1),
)
