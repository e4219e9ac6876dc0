-- What stands in a block that stands: its fronts, and the blocks inside.
use Rattle.std.proofs.Common.{◌≡◌, ◌≤◌, ◌<◌, ◌^◌, ◌∙◌, false, List, [], ◌∷◌, ◌++◌, Option, None, Some, append_assoc, arith, subst, sym, ap}
use Rattle.std.proofs.lemmas.List.{map-append}
use Rattle.idl_block.proofs.BlockLaws.{walk-block}
use Rattle.idl_block.proofs.JoinedLaws.{walk-grows}
use Rattle.idl_block.specs.Blocks.{Part as UnitPart, walk}
use Rattle.idl_check_laws.specs.idl_check.declared.walk.verdict.Verdict.{Verdict}
use Rattle.idl_root_blocks.proofs.VerdictLaws.Stands.{AreHeld, first-held}
use Rattle.idl_root_blocks.proofs.VerdictLaws.Told.{files-told, text-told}
use Rattle.idl_root_blocks.specs.verdicts.Standing.{AreInside, AreStanding, IsBlockFront, block_end, part_step, unit_asks, unit_writes}
use Rattle.idl_check_laws.proofs.ToldLaws.{MoreTurns, turns-grow}
use Rattle.idl_check_laws.specs.Closing.{AreTold}
use Rattle.idl_env.specs.Facts.{UnitFacts, answers, boundary, count_in}
use Rattle.idl_env.specs.Turns.{most_turns, turns_for}
use Rattle.idl_env.specs.declared.additions.addition.Step.{Step}
use Rattle.idl_env.specs.declared.additions.addition.Step.TheVariants.{Enters as EntersFile, Leaves as LeavesFile}
use Rattle.idl_env.specs.declared.keys.key.Key.TheVariants.{Nameless}
use Rattle.idl_block.proofs.FactLaws.WalkLaws.{over-block}
use Rattle.idl_block.specs.facts.Beneath.{Depth, deepened}
use Rattle.idl_block.specs.facts.Known.{AskEnough}
use Rattle.idl_root_blocks.proofs.Comes.{of-block}
use Rattle.idl_root_blocks.proofs.Splits.{facts-first, facts-split}
use Rattle.idl_root_blocks.specs.Blocks.{IsOfBlock, level, part_of, parts_of}
use Rattle.idl_root_blocks.specs.Places.{ComesTo, facts_over, unit_ways, with_entering}
use Rattle.idl_root_blocks.specs.declared.text.BlockPart.{BlockPart as Part}
use Rattle.idl_root_blocks.specs.declared.text.BlockPart.TheVariants.{Text, Enters, Leaves}
use Rattle.idl_unit.specs.declared.unit.UnitText.{UnitText}

-- ---- the laws of blocks of verdicts

abbrev pub Parts : Type 0
Parts = List (UnitPart UnitText Step)

abbrev pub Enough : Type 0
Enough = (before : List UnitFacts) (parts : Parts) → IsBlockFront parts → AreStanding before (block_end (answers before) parts).1
    → AskEnough unit_asks unit_writes (answers before) parts (boundary EntersFile ∷ [])

abbrev pub Walked : Type 0
Walked = (before : List UnitFacts) (parts : Parts) → IsBlockFront parts → AreTold before
    → turns_for (walk unit_ways answers parts (before ++ boundary EntersFile ∷ [])).1 ≤ most_turns
    → count_in (answers (walk unit_ways answers parts (before ++ boundary EntersFile ∷ [])).1 Nameless) < 2 ^ 64
    → AreStanding before (block_end (answers before) parts).1

-- ---- fronts

pub parts-append : (a b : List Part) → parts_of (a ++ b) ≡ parts_of a ++ parts_of b
parts-append a b = map-append part_of a b

front-inside : (a b : Parts) (d : Depth) → AreInside d (a ++ b) → AreInside d a
front-inside [] b d h = tt
front-inside (part ∷ a) b d h = (h.0, by (deepened d (part_step part)) h.1 (λ next. front-inside a b next))
  where
    by : (o : Option Depth) → (elim o as (λ _. Type 0) [ None ↦ ⊥ | Some next ↦ AreInside next (a ++ b) ]) → ((next : Depth) → AreInside next (a ++ b) → AreInside next a)
        → (elim o as (λ _. Type 0) [ None ↦ ⊥ | Some next ↦ AreInside next a ])
    by None h later = h
    by (Some next) h later = later next h

-- the front of a block's text may stand in one
pub block-front : (front behind : List Part) → IsBlockFront (parts_of (front ++ behind)) → IsBlockFront (parts_of front)
block-front front behind whole = front-inside (parts_of front) (parts_of behind) level (subst IsBlockFront (parts-append front behind) whole)

pub facts-grow : (text : List Part) (facts : List UnitFacts) → (rest : List UnitFacts) × (facts_over facts text ≡ facts ++ rest)
facts-grow text facts = walk-grows unit_ways answers (parts_of text) facts

-- facts of units are told
pub part-told : MoreTurns → (part : Part) (facts : List UnitFacts) → turns_for facts ≤ most_turns → AreTold facts → AreTold (facts_over facts (part ∷ []))
part-told more (Text unit) facts enough told = text-told more facts unit enough told
part-told more (Enters inside) facts enough told = files-told facts EntersFile tt told
part-told more (Leaves inside) facts enough told = files-told facts LeavesFile tt told

fewer-turns : (text : List Part) (facts : List UnitFacts) → turns_for (facts_over facts text) ≤ most_turns → turns_for facts ≤ most_turns
fewer-turns text facts enough =
    let r = facts-grow text facts in
    let whole : turns_for (facts ++ r.0) ≤ most_turns = subst (λ (fs : List UnitFacts). turns_for fs ≤ most_turns) r.1 enough in
    let fewer = turns-grow facts r.0 in
    omega (arith, whole, fewer)

pub text-told-over : MoreTurns → (text : List Part) (facts : List UnitFacts) → turns_for (facts_over facts text) ≤ most_turns → AreTold facts → AreTold (facts_over facts text)
text-told-over more [] facts enough told = told
text-told-over more (part ∷ text) facts enough told =
    let next : List UnitFacts = facts_over facts (part ∷ []) in
    let first : facts_over facts (part ∷ text) ≡ facts_over next text = facts-first part text facts in
    let own : turns_for facts ≤ most_turns = fewer-turns (part ∷ text) facts enough in
    subst AreTold (sym first)
    (text-told-over more text next (subst (λ (fs : List UnitFacts). turns_for fs ≤ most_turns) first enough) (part-told more part facts own told))

-- ---- a block that stands

-- what it adds, from its entering on
abbrev pub ended : List UnitFacts → List Part → List UnitFacts
ended before text = (block_end (answers before) (parts_of text)).1

module _ (enough : Enough) where
  -- what its units come to where it stands
  pub comes : (before : List UnitFacts) (text : List Part) → IsBlockFront (parts_of text) → AreStanding before (ended before text) → ComesTo before text (block_end (answers before) (parts_of text))
  comes before text whole standing =
      walk-block unit_ways answers before (parts_of text) (boundary EntersFile ∷ []) (over-block unit_asks unit_writes before (parts_of text) (enough before (parts_of text) whole standing))

  pub facts-come : (before : List UnitFacts) (text : List Part) → IsBlockFront (parts_of text) → AreStanding before (ended before text) → facts_over (with_entering before) text ≡ before ++ ended before text
  facts-come before text whole standing = ap (λ (e : List Verdict × List UnitFacts). e.1) (comes before text whole standing)

  module _ (walked : Walked) (more : MoreTurns) (before : List UnitFacts) (text : List Part) (whole : IsBlockFront (parts_of text)) (standing : AreStanding before (ended before text)) where
    held : AreHeld (facts_over (with_entering before) text)
    held = subst AreHeld (sym (facts-come before text whole standing)) (record { turns = standing.turns; count = standing.count })

    module _ (front behind : List Part) (is : text ≡ front ++ behind) where
      pub front-block : IsBlockFront (parts_of front)
      front-block = block-front front behind (subst (λ (t : List Part). IsBlockFront (parts_of t)) is whole)

      front-held : AreHeld (facts_over (with_entering before) front)
      front-held =
          let over : List UnitFacts = facts_over (with_entering before) front in
          let r = facts-grow behind over in
          first-held over r.0
          (subst AreHeld (ap (facts_over (with_entering before)) is ∙ facts-split front behind (with_entering before) ∙ r.1) held)

      pub front-stands : AreStanding before (ended before front)
      front-stands = walked before (parts_of front) front-block standing.told front-held.turns front-held.count

      pub front-told : AreTold (facts_over (with_entering before) front)
      front-told = text-told-over more front (with_entering before) front-held.turns (files-told before EntersFile tt standing.told)

    -- a block inside stands there
    module _ (front inside behind : List Part) (is : text ≡ front ++ Enters false ∷ (inside ++ Leaves false ∷ behind)) (block : IsOfBlock inside) where
      abbrev over : List UnitFacts
      over = facts_over (with_entering before) front

      inside-is : facts_over (with_entering before) (front ++ Enters false ∷ inside) ≡ facts_over (with_entering over) inside
      inside-is = facts-split front (Enters false ∷ inside) (with_entering before) ∙ facts-first (Enters false) inside over

      inside-held : AreHeld (facts_over (with_entering over) inside)
      inside-held =
          subst AreHeld inside-is
          (front-held (front ++ Enters false ∷ inside) (Leaves false ∷ behind) (is ∙ sym (append_assoc front (Enters false ∷ inside) (Leaves false ∷ behind))))

      pub inside-stands : AreStanding over (ended over inside)
      inside-stands =
          walked over (parts_of inside) (of-block inside block) (front-told front (Enters false ∷ (inside ++ Leaves false ∷ behind)) is) inside-held.turns inside-held.count
