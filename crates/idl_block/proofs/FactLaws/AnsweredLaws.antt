-- What is answered behind facts is what they leave over the bank.
use Rattle.std.proofs.Common.{◌≡◌, List, [], ◌∷◌, ◌++◌, Option, refl, sym, ap, ◌∙◌}
use Rattle.idl_env.specs.Facts.{UnitFacts, World, after, after_all, answers, with_additions}
use Rattle.idl_env.specs.declared.answering.answer.Answer.{Answer}
use Rattle.idl_env.specs.declared.keys.key.Key.{Key}
use Rattle.idl_memo.specs.Query.{outcome}
use Rattle.idl_block.specs.facts.Answered.{AreProper, AskedWorld, answered, at_first, behind_all, behind_one, with_added}
use Rattle.idl_block.specs.facts.Beneath.{StayWithin, answers_over, start}
use Rattle.idl_block.proofs.FactLaws.BeneathLaws.{answers-append}
use Rattle.idl_block.proofs.FactLaws.StandingLaws.{Stands, added-stands}
use Rattle.idl_block.proofs.FactLaws.ClosingStands.{step-stands}

module _ (bank : Key → Option Answer) where
  all-stands : (a : AskedWorld) (w : World) (facts : List UnitFacts) → Stands bank a w → AreProper w facts → Stands bank (behind_all a facts) (after_all w facts)
  all-stands a w [] s proper = s
  all-stands a w (f ∷ facts) s proper =
      all-stands (behind_one a f) (after w f) facts
      (step-stands bank (with_added f.additions a) (with_additions f.additions w) (added-stands bank a w s f.additions proper.0.stops) f.step proper.0.named proper.0.closing)
      proper.1

  pub first-stands : Stands bank at_first (start bank)
  first-stands = record { answers = λ k. refl; declares = λ n path. refl; inside = refl; opened = refl; entered = refl }

pub answered-over : (facts : List UnitFacts) (bank : Key → Option Answer) (k : Key) → AreProper (start bank) facts → outcome (answered facts k) bank ≡ answers_over facts bank k
answered-over facts bank k proper = (all-stands bank at_first (start bank) facts (first-stands bank) proper).answers k

pub answered-behind : (before facts : List UnitFacts) (k : Key) → AreProper (start (answers before)) facts → StayWithin (start (answers before)) facts
    → outcome (answered facts k) (answers before) ≡ answers (before ++ facts) k
answered-behind before facts k proper within = answered-over facts (answers before) k proper ∙ ap (λ f. f k) (sym (answers-append before facts within))
