-- The parts of a block that stand so ask enough.
use Rattle.std.proofs.Common.{◌≡◌, ◌≤◌, ◌<◌, ◌^◌, ◌∙◌, ap, append-nil, ℕ, append_assoc, arith, List, [], ◌∷◌, ◌++◌, Option, Some, None, refl, sym, subst}
use Rattle.std.specs.Prelude.{All}
use Rattle.std.proofs.lemmas.List.Elements.{All-nil}
use Rattle.idl_block.specs.Behind.{laid}
use Rattle.idl_block.specs.Blocks.{Part, Text, Boundary, Ways, block, walk}
use Rattle.idl_env.specs.Facts.{UnitFacts, World, after_all, answers, boundary, count_in, entity_in, entity_key, nameless, over, path_around, scopes_in, unstopped, with_additions, world}
use Rattle.idl_env.specs.Turns.{most_turns, turns_for}
use Rattle.idl_env.specs.declared.additions.addition.Addition.{Addition}
use Rattle.idl_env.specs.declared.additions.addition.Step.{Step}
use Rattle.idl_env.specs.declared.additions.addition.Step.TheVariants.{Enters, Leaves}
use Rattle.idl_env.specs.declared.answering.answer.Answer.{Answer}
use Rattle.idl_env.specs.declared.keys.key.Key.{Key}
use Rattle.idl_env.specs.declared.keys.key.Key.TheVariants.{Cursor, Declared, Nameless, Opened}
use Rattle.idl_block.specs.facts.Answered.{AreNamedAt, AreStops, answered}
use Rattle.idl_block.specs.facts.Beneath.{Depth, deepened, start}
use Rattle.idl_block.specs.facts.Known.{AskEnough, AsksEnough, HasAsked, IsTold, NoneInside, facts_at}
use Rattle.idl_block.specs.facts.Written.{ways_of}
use Rattle.idl_block.proofs.FactLaws.AnsweredLaws.{answered-behind}
use Rattle.idl_block.proofs.FactLaws.BeneathLaws.{answers-append}
use Rattle.idl_block.proofs.FactLaws.InsideLaws.{Goes, IsIn, in-more, inside-less, start-in, step-in}
use Rattle.idl_block.proofs.FactLaws.OpenLaws.{facts-open}
use Rattle.idl_block.proofs.FactLaws.WalkLaws.{IsSound, after-more, first-sound, over-block, sound-more}
use Rattle.idl_memo.specs.Query.{asked, outcome}
use Rattle.idl_unit.specs.declared.unit.UnitText.{UnitText}
use Rattle.idl_root_blocks.specs.verdicts.Owned.{AreOwned}
use Rattle.idl_root_blocks.specs.verdicts.Standing.{AreInside, AreStanding, IsBlockFront, IsOfFiles, block_end, part_step, unit_asks, unit_writes}
use Rattle.idl_check_laws.specs.Closing.{AreTold}
use Rattle.idl_block.proofs.BlockLaws.{outcome-unit, walk-block}
use Rattle.idl_block.proofs.JoinedLaws.{walk-grows}
use Rattle.idl_check_laws.specs.idl_check.declared.walk.verdict.Verdict.{Verdict}
use Rattle.idl_root_blocks.proofs.VerdictLaws.Grows.{count-grow}
use Rattle.idl_root_blocks.proofs.VerdictLaws.Told.{files-told, text-told}
use Rattle.idl_root_blocks.proofs.VerdictLaws.Asks.{unit-asks}
use Rattle.idl_root_blocks.proofs.VerdictLaws.UnitStops.{unit-stops}
use Rattle.idl_check_laws.proofs.NamingLaws.{unit-named}
use Rattle.idl_check_laws.proofs.ToldLaws.{MoreTurns, said-alike, turns-grow}
use Rattle.idl_root_blocks.proofs.VerdictLaws.Names.{IsTextStep, named-unit, text-deepened, unit-nothing}

-- facts that are no more than memory holds: their turns and the nameless scopes are counted
pub record AreHeld (facts : List UnitFacts) : Type 0 where
  pub turns : turns_for facts ≤ most_turns
  pub count : count_in (answers facts Nameless) < 2 ^ 64

-- the first of facts that are held
pub first-held : (facts more : List UnitFacts) → AreHeld (facts ++ more) → AreHeld facts
first-held facts more held =
    let turns = held.turns in
    let count = held.count in
    let fewer = turns-grow facts more in
    let less = count-grow facts more in
    record { turns = omega (arith, turns, fewer); count = omega (arith, count, less) }

-- facts behind which units stand
record IsPlace (facts : List UnitFacts) : Type 0 where
  pub told : AreTold facts
  pub held : AreHeld facts

-- names over facts that are told
pub record AreNames (facts : List UnitFacts) : Type 0 where
  pub own : AreOwned (answers facts)
  pub none : (name : List ℕ) (scope : List (List ℕ)) → entity_in (answers facts (entity_key ((63 ∷ name) ∷ scope))) ≡ None
  pub next : (scope : List (List ℕ)) → count_in (answers facts (Opened (nameless (count_in (answers facts Nameless)) ∷ scope))) ≡ 0
  pub blank : (n : List ℕ) (scope : List (List ℕ)) → entity_in (answers facts (Declared n (nameless (count_in (answers facts Nameless)) ∷ scope))) ≡ None
  pub deepest : NoneInside (scopes_in (answers facts Cursor)) (path_around (scopes_in (answers facts Cursor)))

module _ (before : List UnitFacts) (names : (facts : List UnitFacts) → AreTold facts → count_in (answers facts Nameless) < 2 ^ 64 → AreNames facts) (text_step : IsTextStep) (more : MoreTurns) where
  abbrev bank : Key → Option Answer
  bank = answers before

  abbrev here : List UnitFacts → World
  here written = after_all (start bank) written

  module _ (written : List UnitFacts) (sound : IsSound bank written) where
    abbrev facts : List UnitFacts
    facts = before ++ written

    -- the answers there, as they are asked
    is-asked : answers facts ≡ laid answered written bank
    is-asked = λ i k. sym (answered-behind before written k sound.proper sound.within) i

    is-here : answers facts ≡ (here written).answers
    is-here = answers-append before written sound.within

    names-here : (additions : List Addition) → (with_additions additions (world facts)).answers ≡ (with_additions additions (here written)).answers
    names-here additions = λ i k. over (unstopped (is-here i) additions) k (is-here i k)

    -- a unit asked enough there
    text-asks : (text : UnitText) → IsPlace facts → HasAsked (scopes_in (laid answered written bank Cursor)) (asked (unit_asks text) (laid answered written bank)) (unit_writes (outcome (unit_asks text) (laid answered written bank)))
    text-asks text place =
        subst (λ (b : Key → Option Answer). HasAsked (scopes_in (b Cursor)) (asked (unit_asks text) b) (unit_writes (outcome (unit_asks text) b))) is-asked
        (unit-asks most_turns text (answers facts) (names facts place.told place.held.count).own (facts-open facts) (names facts place.told place.held.count).deepest)

    text-named : (text : UnitText) → IsPlace facts
        → let f = unit_writes (outcome (unit_asks text) (laid answered written bank)) in AreNamedAt (with_additions f.additions (here written)).answers f.step
    text-named text place =
        let n = names facts place.told place.held.count in
        let f : UnitFacts = unit_writes (outcome (unit_asks text) (answers facts)) in
        let named : AreNamedAt (with_additions f.additions (world facts)).answers f.step = named-unit facts n.own n.none n.next n.blank f (unit-nothing most_turns (answers facts) text) (unit-named most_turns (answers facts) text) in
        subst (λ (b : Key → Option Answer). let f = unit_writes (outcome (unit_asks text) b) in AreNamedAt (with_additions f.additions (here written)).answers f.step) is-asked
        (subst (λ (a : Key → Option Answer). AreNamedAt a f.step) (names-here f.additions) named)

    -- the uses that it adds are stopped by scopes in which it stands, or by none
    text-stops : (text : UnitText) → IsPlace facts → All (AreStops (here written).answers) (unit_writes (outcome (unit_asks text) (laid answered written bank))).additions
    text-stops text place =
        let stops : All (AreStops (answers facts)) (unit_writes (outcome (unit_asks text) (answers facts))).additions =
        subst (λ (v : Verdict). All (AreStops (answers facts)) v.writes.additions) (sym (said-alike more facts text place.held.turns)) (unit-stops facts place.told text) in
        subst (λ (b : Key → Option Answer). All (AreStops (here written).answers) (unit_writes (outcome (unit_asks text) b)).additions) is-asked
        (subst (λ (a : Key → Option Answer). All (AreStops a) (unit_writes (outcome (unit_asks text) (answers facts))).additions) is-here stops)

    -- what a part adds is told
    part-told : (part : Part UnitText Step) → IsOfFiles part → turns_for facts ≤ most_turns → AreTold facts → AreTold (before ++ (written ++ facts_at unit_asks unit_writes bank part written ∷ []))
    part-told (Boundary step) files enough told = subst AreTold (append_assoc before written (boundary step ∷ [])) (files-told facts step files told)
    part-told (Text text) files enough told =
        subst AreTold (append_assoc before written (facts_at unit_asks unit_writes bank (Text text) written ∷ []))
        (subst (λ (b : Key → Option Answer). AreTold (facts ++ unit_writes (outcome (unit_asks text) b) ∷ [])) is-asked (text-told more facts text enough told))

  -- the facts of a part, by how deep it stands
  told-at : (d : Depth) (written : List UnitFacts) (f : UnitFacts) → IsIn d (here written) → All (AreStops (here written).answers) f.additions
      → AreNamedAt (with_additions f.additions (here written)).answers f.step → (next : Depth) → deepened d f.step ≡ Some next → IsTold (here written) f × IsIn next (here (written ++ f ∷ []))
  told-at d written f deep stops named next is =
      let kept : Goes (with_additions f.additions (here written)) f.step next = step-in d (with_additions f.additions (here written)) f.step (in-more d (here written) f.additions deep) next is in (
        record {
          proper = record { stops = stops; named = named; closing = kept.0.1 };
          inside = inside-less (here written) f.additions f.step kept.0.0;
        },
        subst (IsIn next) (sym (after-more (start bank) written f)) kept.1,
      )

  -- what a part does to the open scopes and files is told by its text
  part-deepened : (d : Depth) (part : Part UnitText Step) (written : List UnitFacts) → deepened d (facts_at unit_asks unit_writes bank part written).step ≡ deepened d (part_step part)
  part-deepened d (Boundary step) written = refl
  part-deepened d (Text text) written = text-deepened most_turns (laid answered written bank) text_step d text

  -- ---- what is known at each part

  abbrev ways : Ways Key (Option Answer) (Unit {0}) UnitText Step UnitFacts Verdict
  ways = ways_of unit_asks unit_writes

  abbrev ended : List (Part UnitText Step) → List UnitFacts → List UnitFacts
  ended parts written = (outcome (block ways parts written) bank).1

  block-step : (part : Part UnitText Step) (parts : List (Part UnitText Step)) (written : List UnitFacts)
      → ended (part ∷ parts) written ≡ ended parts (written ++ facts_at unit_asks unit_writes bank part written ∷ [])
  block-step (Boundary step) parts written = refl
  block-step (Text text) parts written = ap (λ (e : List Verdict × List UnitFacts). e.1) (outcome-unit ways text parts written bank)

  -- what was written stays
  block-grows : (parts : List (Part UnitText Step)) (written : List UnitFacts) → (rest : List UnitFacts) × (ended parts written ≡ written ++ rest)
  block-grows [] written = ([], sym (append-nil written))
  block-grows (part ∷ parts) written =
      let f : UnitFacts = facts_at unit_asks unit_writes bank part written in
      let r : (rest : List UnitFacts) × (ended parts (written ++ f ∷ []) ≡ (written ++ f ∷ []) ++ rest) = block-grows parts (written ++ f ∷ []) in
      (f ∷ r.0, block-step part parts written ∙ r.1 ∙ append_assoc written (f ∷ []) r.0)

  abbrev ArePlaces : List (Part UnitText Step) → List UnitFacts → Type 0
  ArePlaces [] written = Unit {0}
  ArePlaces (part ∷ parts) written =
      IsSound bank written → AreHeld (before ++ written) × ArePlaces parts (written ++ facts_at unit_asks unit_writes bank part written ∷ [])

  module _ (facts : List UnitFacts) (held : AreHeld (before ++ facts)) where
    are-places : (parts : List (Part UnitText Step)) (written : List UnitFacts) → ended parts written ≡ facts → ArePlaces parts written
    are-places [] written is = tt
    are-places (part ∷ parts) written is = λ sound.
        let f : UnitFacts = facts_at unit_asks unit_writes bank part written in
        let next : ended parts (written ++ f ∷ []) ≡ facts = sym (block-step part parts written) ∙ is in
        let r : (rest : List UnitFacts) × (ended parts (written ++ f ∷ []) ≡ (written ++ f ∷ []) ++ rest) = block-grows parts (written ++ f ∷ []) in
        let there : written ++ f ∷ r.0 ≡ facts = sym (append_assoc written (f ∷ []) r.0) ∙ sym r.1 ∙ next in
        let whole : before ++ facts ≡ (before ++ written) ++ f ∷ r.0 = ap (λ (fs : List UnitFacts). before ++ fs) (sym there) ∙ sym (append_assoc before written (f ∷ r.0)) in (
          first-held (before ++ written) (f ∷ r.0) (subst AreHeld whole held),
          are-places parts (written ++ f ∷ []) next,
        )

  -- ---- and where its units add facts one after another

  abbrev walked : List (Part UnitText Step) → List UnitFacts → List UnitFacts
  walked parts facts = (walk ways answers parts facts).1

  walk-step : (part : Part UnitText Step) (parts : List (Part UnitText Step)) (written : List UnitFacts) → IsSound bank written
      → walked (part ∷ parts) (before ++ written) ≡ walked parts (before ++ (written ++ facts_at unit_asks unit_writes bank part written ∷ []))
  walk-step (Boundary step) parts written sound = ap (walked parts) (append_assoc before written (boundary step ∷ []))
  walk-step (Text text) parts written sound =
      ap (λ (b : Key → Option Answer). walked parts ((before ++ written) ++ unit_writes (outcome (unit_asks text) b) ∷ [])) (is-asked written sound)
      ∙ ap (walked parts) (append_assoc before written (facts_at unit_asks unit_writes bank (Text text) written ∷ []))

  walk-places : (facts : List UnitFacts) → AreHeld facts → (parts : List (Part UnitText Step)) (written : List UnitFacts) → walked parts (before ++ written) ≡ facts → ArePlaces parts written
  walk-places facts held [] written is = tt
  walk-places facts held (part ∷ parts) written is = λ sound.
      let r : (rest : List UnitFacts) × (walked (part ∷ parts) (before ++ written) ≡ (before ++ written) ++ rest) = walk-grows ways answers (part ∷ parts) (before ++ written) in (
        first-held (before ++ written) r.0 (subst AreHeld (sym is ∙ r.1) held),
        walk-places facts held parts (written ++ facts_at unit_asks unit_writes bank part written ∷ []) (sym (walk-step part parts written sound) ∙ is),
      )

  stands-from : (d : Depth) (parts : List (Part UnitText Step)) (written : List UnitFacts) → IsSound bank written → IsIn d (here written) → AreTold (before ++ written) → AreInside d parts → ArePlaces parts written
      → AskEnough unit_asks unit_writes bank parts written
  stands-from d [] written sound deep told inside standing = tt
  stands-from d (part ∷ parts) written sound deep told inside standing =
      let here = standing sound in
      by part (record { told = told; held = here.0 }) inside.0 (deepened d (part_step part)) refl inside.1
      (λ next after deep within. stands-from next parts (written ++ facts_at unit_asks unit_writes bank part written ∷ []) after deep
      (part-told written sound part inside.0 here.0.turns told) within here.1)
    where
      asks : (part : Part UnitText Step) → IsPlace (before ++ written) → IsOfFiles part → AsksEnough unit_asks unit_writes bank part written
      asks (Boundary Enters) place files = tt
      asks (Boundary Leaves) place files = tt
      asks (Boundary other) place files = absurd files
      asks (Text text) place files = text-asks written sound text place

      named : (part : Part UnitText Step) → IsPlace (before ++ written) → IsOfFiles part
          → AreNamedAt (with_additions (facts_at unit_asks unit_writes bank part written).additions (here written)).answers (facts_at unit_asks unit_writes bank part written).step
      named (Boundary Enters) place files = tt
      named (Boundary Leaves) place files = tt
      named (Boundary other) place files = absurd files
      named (Text text) place files = text-named written sound text place

      stops : (part : Part UnitText Step) → IsPlace (before ++ written) → All (AreStops (here written).answers) (facts_at unit_asks unit_writes bank part written).additions
      stops (Boundary step) place = All-nil (AreStops (here written).answers)
      stops (Text text) place = text-stops written sound text place

      by : (part : Part UnitText Step) → IsPlace (before ++ written) → IsOfFiles part
          → (o : Option Depth) → deepened d (part_step part) ≡ o
          → (elim o as (λ _. Type 0) [ None ↦ ⊥ | Some next ↦ AreInside next parts ])
          → ((next : Depth) → IsSound bank (written ++ facts_at unit_asks unit_writes bank part written ∷ []) → IsIn next (here (written ++ facts_at unit_asks unit_writes bank part written ∷ []))
          → AreInside next parts → AskEnough unit_asks unit_writes bank parts (written ++ facts_at unit_asks unit_writes bank part written ∷ []))
          → (AsksEnough unit_asks unit_writes bank part written × IsTold (here written) (facts_at unit_asks unit_writes bank part written))
          × AskEnough unit_asks unit_writes bank parts (written ++ facts_at unit_asks unit_writes bank part written ∷ [])
      by part place files None is inside rest = absurd inside
      by part place files (Some next) is inside rest =
          let f : UnitFacts = facts_at unit_asks unit_writes bank part written in
          let told = told-at d written f deep (stops part place) (named part place files) next (part-deepened d part written ∙ is) in
          ((asks part place files, told.0), rest next (sound-more bank written f sound told.0) told.1 inside)

  -- a block asks enough where what it writes stands
  pub stands-enough : (parts : List (Part UnitText Step)) → IsBlockFront parts → AreStanding before (block_end bank parts).1 → AskEnough unit_asks unit_writes bank parts (boundary Enters ∷ [])
  stands-enough parts inside standing =
      let held : AreHeld (before ++ (block_end bank parts).1) = record { turns = standing.turns; count = standing.count } in
      stands-from (record { scopes = 0; files = 0 }) parts (boundary Enters ∷ []) (first-sound bank) (start-in bank (facts-open before)) (files-told before Enters tt standing.told) inside
      (are-places (block_end bank parts).1 held parts (boundary Enters ∷ []) refl)

  -- what it writes stands where its units add no more than memory holds
  pub stands-walked : (parts : List (Part UnitText Step)) → IsBlockFront parts → AreTold before → AreHeld (walked parts (before ++ boundary Enters ∷ []))
      → AreStanding before (block_end bank parts).1
  stands-walked parts inside told held =
      let entered : List UnitFacts = boundary Enters ∷ [] in
      let enough : AskEnough unit_asks unit_writes bank parts entered =
      stands-from (record { scopes = 0; files = 0 }) parts entered (first-sound bank) (start-in bank (facts-open before)) (files-told before Enters tt told) inside
      (walk-places (walked parts (before ++ entered)) held parts entered refl) in
      let same : walk ways answers parts (before ++ entered) ≡ ((block_end bank parts).0, before ++ (block_end bank parts).1) =
      walk-block ways answers before parts entered (over-block unit_asks unit_writes before parts enough) in
      let there : AreHeld (before ++ (block_end bank parts).1) = subst AreHeld (ap (λ (e : List Verdict × List UnitFacts). e.1) same) held in
      record { told = told; turns = there.turns; count = there.count }
