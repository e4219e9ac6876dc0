-- Open blocks behind a text, and behind what comes after it.
use Rattle.std.proofs.Common.{◌≡◌, ◌∙◌, ◌+◌, arith, false, suc, Bool, List, [], ◌∷◌, ◌++◌, append-nil, append_assoc, length, map, refl, subst, sym, ap}
use Rattle.std.proofs.lemmas.List.{length-append, map-append, map-id}
use Rattle.std.proofs.lemmas.Simd.{map-map}
use Rattle.idl_root_blocks.specs.verdicts.Standing.{IsBlockFront}
use Rattle.idl_root_blocks.proofs.IdlCheckLaws.ToldLaws.{MoreTurns}
use Rattle.idl_env.specs.Facts.{UnitFacts, answers, boundary}
use Rattle.idl_env.specs.declared.additions.addition.Step.TheVariants.{Enters as EntersFile}
use Rattle.idl_root.specs.Passed.{AllGoOn, GoesOn}
use Rattle.idl_root_blocks.proofs.Fronts.{Enough, Walked, front-block, front-stands}
use Rattle.idl_root_blocks.proofs.Splits.{facts-split}
use Rattle.idl_root_blocks.specs.Asking.{IsOpen, OpenBlock, kept_of, with_asked}
use Rattle.idl_root_blocks.specs.Blocks.{IsOfBlock, parts_of}
use Rattle.idl_root_blocks.specs.Outer.{Log, noted_over, outer_log}
use Rattle.idl_root_blocks.specs.Places.{Stands, block_result, declaration_result, facts_over, with_entering}
use Rattle.idl_root_blocks.specs.declared.text.BlockPart.{BlockPart as Part}
use Rattle.idl_root_blocks.specs.declared.text.BlockPart.TheVariants.{Text, Enters, Leaves}
use Rattle.idl_unit.specs.declared.unit.UnitText.{UnitText}

-- ---- one text after another

goes-none : (facts : List UnitFacts) (block : OpenBlock) → GoesOn facts [] block block
goes-none facts block = record {
  text_is = refl;
  noted = λ before passed whole standing is. subst (λ (t : List Part). IsOpen before t facts block) (sym (append-nil passed)) is;
}

pub all-none : (facts : List UnitFacts) (blocks : List OpenBlock) → AllGoOn facts [] blocks blocks
all-none facts blocks = record { by = λ block. block; all = sym (map-id blocks); each = goes-none facts }

module _ (enough : Enough) (walked : Walked) (more : MoreTurns) where
  goes-more : (facts : List UnitFacts) (a b : List Part) (old between new : OpenBlock) → GoesOn facts a old between → GoesOn (facts_over facts a) b between new → GoesOn facts (a ++ b) old new
  goes-more facts a b old between new first second = record {
    text_is = second.text_is ∙ first.text_is;
    noted = λ before passed whole standing is.
        let same : (passed ++ a) ++ b ≡ passed ++ (a ++ b) = append_assoc passed a b in
        let all : IsBlockFront (parts_of ((passed ++ a) ++ b)) = subst (λ (t : List Part). IsBlockFront (parts_of t)) (sym same) whole in
        let stands : Stands before ((passed ++ a) ++ b) = subst (Stands before) (sym same) standing in
        let front : IsBlockFront (parts_of (passed ++ a)) = front-block enough walked more before ((passed ++ a) ++ b) all stands (passed ++ a) b refl in
        let there : Stands before (passed ++ a) = front-stands enough walked more before ((passed ++ a) ++ b) all stands (passed ++ a) b refl in
        let one : IsOpen before (passed ++ a) (facts_over facts a) between = first.noted before passed front there is in
        let two : IsOpen before ((passed ++ a) ++ b) (facts_over (facts_over facts a) b) new = second.noted before (passed ++ a) all stands one in
        subst (λ (t : List Part). IsOpen before t (facts_over facts (a ++ b)) new) same
        (subst (λ (fs : List UnitFacts). IsOpen before ((passed ++ a) ++ b) fs new) (sym (facts-split a b facts)) two);
  }

  pub all-more : (facts : List UnitFacts) (a b : List Part) (old between new : List OpenBlock) → AllGoOn facts a old between → AllGoOn (facts_over facts a) b between new
      → AllGoOn facts (a ++ b) old new
  all-more facts a b old between new first second = record {
    by = λ block. second.by (first.by block);
    all = second.all ∙ ap (map second.by) first.all ∙ map-map second.by first.by old;
    each = λ block. goes-more facts a b block (first.by block) (second.by (first.by block)) (first.each block) (second.each (first.by block));
  }

  -- ---- what is asked there

  -- the facts behind a text, in a block that stands there
  now-more : (facts : List UnitFacts) (text : List Part) (before : List UnitFacts) (passed : List Part) → facts ≡ facts_over (with_entering before) passed
      → facts_over facts text ≡ facts_over (with_entering before) (passed ++ text)
  now-more facts text before passed is = ap (λ (fs : List UnitFacts). facts_over fs text) is ∙ sym (facts-split passed text (with_entering before))

  module _ (facts : List UnitFacts) (text : List Part) (old : List OpenBlock) where
    -- nothing
    pub all-same : ((before : List UnitFacts) (passed : List Part) → IsBlockFront (parts_of passed) → Stands before passed → outer_log before (passed ++ text) ≡ outer_log before passed)
        → AllGoOn facts text old old
    all-same law = record {
      by = λ block. block;
      all = sym (map-id old);
      each = λ block. record {
        text_is = refl;
        noted = λ before passed whole standing is.
            let front : IsBlockFront (parts_of passed) = front-block enough walked more before (passed ++ text) whole standing passed text refl in
            let there : Stands before passed = front-stands enough walked more before (passed ++ text) whole standing passed text refl in
            record { start = is.start; now = now-more facts text before passed is.now; log = is.log ∙ sym (law before passed front there) };
      };
    }

    -- or these entries
    pub all-asked : (entries : Log)
        → ((before : List UnitFacts) (passed : List Part) → IsBlockFront (parts_of passed) → Stands before passed → facts ≡ facts_over (with_entering before) passed
        → outer_log before (passed ++ text) ≡ noted_over facts (suc (length before)) (outer_log before passed) entries)
        → AllGoOn facts text old (map (with_asked facts entries) old)
    all-asked entries law = record {
      by = with_asked facts entries;
      all = refl;
      each = λ block. record {
        text_is = refl;
        noted = λ before passed whole standing is.
            let front : IsBlockFront (parts_of passed) = front-block enough walked more before (passed ++ text) whole standing passed text refl in
            let there : Stands before passed = front-stands enough walked more before (passed ++ text) whole standing passed text refl in
            record {
              start = is.start;
              now = now-more facts text before passed is.now;
              log = (λ i. noted_over facts (is.start i) (is.log i) entries) ∙ sym (law before passed front there is.now);
            };
      };
    }

  -- a file boundary
  pub all-boundary : ((before : List UnitFacts) (front : List Part) (b : Bool) → IsBlockFront (parts_of front) → Stands before front
      → (outer_log before (front ++ Enters b ∷ []) ≡ outer_log before front) × (outer_log before (front ++ Leaves b ∷ []) ≡ outer_log before front))
      → (facts : List UnitFacts) (b : Bool) (old : List OpenBlock) → AllGoOn facts (Enters b ∷ []) old old × AllGoOn facts (Leaves b ∷ []) old old
  all-boundary law facts b old = (
    all-same facts (Enters b ∷ []) old (λ before passed whole standing. (law before passed b whole standing).0),
    all-same facts (Leaves b ∷ []) old (λ before passed whole standing. (law before passed b whole standing).1),
  )

  -- a unit
  pub all-unit : ((before : List UnitFacts) (front : List Part) (text : UnitText) → IsBlockFront (parts_of front) → Stands before front
      → outer_log before (front ++ Text text ∷ [])
      ≡ noted_over (facts_over (with_entering before) front) (suc (length before)) (outer_log before front) (declaration_result (text, answers (facts_over (with_entering before) front))).log)
      → (facts : List UnitFacts) (text : UnitText) (old : List OpenBlock)
      → AllGoOn facts (Text text ∷ []) old (map (with_asked facts (declaration_result (text, answers facts)).log) old)
  all-unit law facts text old =
      all-asked facts (Text text ∷ []) old (declaration_result (text, answers facts)).log
      (λ before passed whole standing is.
      subst (λ (fs : List UnitFacts). outer_log before (passed ++ Text text ∷ []) ≡ noted_over fs (suc (length before)) (outer_log before passed) (declaration_result (text, answers fs)).log)
      (sym is) (law before passed text whole standing))

  -- a block
  pub all-block : ((before : List UnitFacts) (front inside : List Part) → IsBlockFront (parts_of front) → Stands before front
      → IsOfBlock inside → Stands (facts_over (with_entering before) front) inside
      → outer_log before (front ++ Enters false ∷ (inside ++ Leaves false ∷ []))
      ≡ noted_over (facts_over (with_entering before) front) (suc (length before)) (outer_log before front) (block_result (inside, answers (facts_over (with_entering before) front))).log)
      → (facts : List UnitFacts) (inside : List Part) (old : List OpenBlock) → IsOfBlock inside → Stands facts inside
      → AllGoOn facts (Enters false ∷ (inside ++ Leaves false ∷ [])) old (map (with_asked facts (block_result (inside, answers facts)).log) old)
  all-block law facts inside old block stands =
      let text : List Part = Enters false ∷ (inside ++ Leaves false ∷ []) in
      all-asked facts text old (block_result (inside, answers facts)).log
      (λ before passed whole standing is.
      subst (λ (fs : List UnitFacts). outer_log before (passed ++ text) ≡ noted_over fs (suc (length before)) (outer_log before passed) (block_result (inside, answers fs)).log)
      (sym is) (law before passed inside whole standing block (subst (λ (fs : List UnitFacts). Stands fs inside) is stands)))

-- ---- the innermost block

-- a block that was entered here goes on with the others
pub all-others : (facts : List UnitFacts) (text : List Part) (others : List OpenBlock) (block : OpenBlock) (new : List OpenBlock) → AllGoOn facts text (others ++ block ∷ []) new
    → (left : List OpenBlock) × (own : OpenBlock) × (new ≡ left ++ own ∷ []) × AllGoOn facts text others left × GoesOn facts text block own
all-others facts text others block new on = (
  map on.by others,
  on.by block,
  on.all ∙ map-append on.by others (block ∷ []),
  record { by = on.by; all = refl; each = on.each },
  on.each block,
)

-- it is what is kept of it, where it is left
pub left-block : ((before : List UnitFacts) (text : List Part) → IsBlockFront (parts_of text) → Stands before text → (block_result (text, answers before)).log ≡ outer_log before text)
    → (before : List UnitFacts) (text : List Part) (old own : OpenBlock) → IsBlockFront (parts_of text) → Stands before text
    → old ≡ record { text = text; start = length (with_entering before); log = [] }
    → GoesOn (with_entering before) text old own → kept_of own ≡ block_result (text, answers before)
left-block law before text old own whole standing entered on =
    let more : length (with_entering before) ≡ length before + 1 = length-append before (boundary EntersFile ∷ []) in
    let start : old.start ≡ suc (length before) = ap (λ (b : OpenBlock). b.start) entered ∙ omega (arith, more) in
    let first : IsOpen before [] (with_entering before) old = record { start = start; now = refl; log = ap (λ (b : OpenBlock). b.log) entered } in
    let now : IsOpen before text (facts_over (with_entering before) text) own = on.noted before [] whole standing first in
    let same : own.text ≡ text = on.text_is ∙ ap (λ (b : OpenBlock). b.text) entered in
    λ i. record { text = same i; log = (now.log ∙ sym (law before text whole standing)) i; out = tt }
