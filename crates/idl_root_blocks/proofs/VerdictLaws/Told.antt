-- What the parts of a block add is told, as the facts of a root are.
use Rattle.std.proofs.Common.{◌≤◌, List, [], ◌∷◌, ◌++◌, refl, ap}
use Rattle.idl_block.specs.Blocks.{Boundary}
use Rattle.idl_check_laws.specs.idl_check.walk.Verdict.{verdict}
use Rattle.idl_check_laws.specs.idl_check.declared.walk.verdict.Verdict.{Verdict}
use Rattle.idl_check_laws.proofs.ToldLaws.{MoreTurns, said-alike, told-more}
use Rattle.idl_check_laws.specs.Closing.{AreTold, IsTold as told}
use Rattle.idl_env.specs.Facts.{UnitFacts, answers, boundary}
use Rattle.idl_env.specs.Turns.{most_turns, turns_for}
use Rattle.idl_env.specs.declared.additions.addition.Step.{Step}
use Rattle.idl_env.specs.declared.additions.addition.Step.TheVariants.{Enters, Leaves}
use Rattle.idl_memo.specs.Query.{outcome}
use Rattle.idl_unit.specs.declared.unit.UnitText.{UnitText}
use Rattle.idl_root_blocks.specs.verdicts.Standing.{IsOfFiles}

-- a boundary of files is told
pub files-told : (facts : List UnitFacts) (step : Step) → IsOfFiles (Boundary step) → AreTold facts → AreTold (facts ++ boundary step ∷ [])
files-told facts Enters files h = told-more facts (boundary Enters) h (told.Entered refl)
files-told facts Leaves files h = told-more facts (boundary Leaves) h (told.Left refl)
files-told facts other files h = absurd files

module _ (more : MoreTurns) where
  -- and what a unit says over facts
  pub text-told : (facts : List UnitFacts) (text : UnitText) → turns_for facts ≤ most_turns → AreTold facts → AreTold (facts ++ (outcome (verdict most_turns text) (answers facts)).writes ∷ [])
  text-told facts text enough h = told-more facts _ h (told.Unit text (ap (λ (v : Verdict). v.writes) (said-alike more facts text enough)))
