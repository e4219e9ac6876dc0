-- What units add, and what they come to, is told by their text.
use Rattle.std.proofs.Common.{◌≡◌, ◌∙◌, List, [], ◌∷◌, ◌++◌, append-nil, map, refl, ap}
use Rattle.idl_block.specs.Blocks.{walk}
use Rattle.idl_root_blocks.specs.idl_check.declared.walk.verdict.Verdict.{Verdict}
use Rattle.idl_env.specs.Facts.{UnitFacts, answers}
use Rattle.idl_root.specs.Judged.{Judged, facts_after, judged_after}
use Rattle.idl_root_blocks.specs.idl_check.walk.Verdict.{added, verdict_over}
use Rattle.idl_root_blocks.specs.Blocks.{parts_of}
use Rattle.idl_root_blocks.specs.Places.{facts_over, unit_ways}
use Rattle.idl_root_blocks.specs.Units.{text_of}
use Rattle.idl_unit.specs.declared.unit.Unit.{Unit as RootUnit}
use Rattle.idl_unit.specs.declared.unit.Unit.TheVariants.{Spelled, Entered, Left, End}

pub facts-text : (units : List RootUnit) (facts : List UnitFacts) → facts_after facts units ≡ facts_over facts (text_of units)
unfolding facts_after
facts-text [] facts = refl
facts-text (Spelled text sites ∷ units) facts = facts-text units (facts ++ added facts (Spelled text sites))
facts-text (Entered file inside ∷ units) facts = facts-text units (facts ++ added facts (Entered file inside))
facts-text (Left file inside ∷ units) facts = facts-text units (facts ++ added facts (Left file inside))
facts-text (End ∷ units) facts = ap (λ (fs : List UnitFacts). facts_after fs units) (append-nil facts) ∙ facts-text units facts

-- the verdicts of judged units
abbrev verdicts : List Judged → List Verdict
verdicts judged = map (λ j. j.verdict) judged

abbrev walked : List UnitFacts → List RootUnit → List Verdict
walked facts units = (walk unit_ways answers (parts_of (text_of units)) facts).0

pub verdicts-text : (units : List RootUnit) (facts : List UnitFacts) → verdicts (judged_after facts units) ≡ walked facts units
unfolding judged_after
verdicts-text [] facts = refl
verdicts-text (Spelled text sites ∷ units) facts =
    ap (λ (vs : List Verdict). verdict_over facts text ∷ vs) (verdicts-text units (facts ++ added facts (Spelled text sites)))
verdicts-text (Entered file inside ∷ units) facts = verdicts-text units (facts ++ added facts (Entered file inside))
verdicts-text (Left file inside ∷ units) facts = verdicts-text units (facts ++ added facts (Left file inside))
verdicts-text (End ∷ units) facts = ap (λ (fs : List UnitFacts). verdicts (judged_after fs units)) (append-nil facts) ∙ verdicts-text units facts
