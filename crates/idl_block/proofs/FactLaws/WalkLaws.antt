-- What a block has written lies over what stands before it.
use Rattle.std.proofs.Common.{◌≡◌, ◌<◌, suc, List, [], ◌∷◌, ◌++◌, length, Option, refl, sym, ap, ◌∙◌, subst, arith}
use Rattle.std.specs.Prelude.{drop}
use Rattle.std.proofs.lemmas.List.Elements.{All-cons, All-nil}
use Rattle.idl_block.proofs.BlockLaws.{outcome-unit}
use Rattle.idl_block.specs.Blocks.{Boundary, Part, Text, Ways, block}
use Rattle.idl_block.specs.Questions.{AreOver, IsOver, befores}
use Rattle.idl_env.specs.Facts.{UnitFacts, World, after, after_all, after_closing, after_step, answers, boundary, operations_among, with_additions}
use Rattle.idl_env.specs.declared.additions.addition.Step.{Step}
use Rattle.idl_env.specs.declared.additions.addition.Step.TheVariants.{Stays, Opens, OpensNameless, Closes, Prefixes, Enters, Leaves}
use Rattle.idl_env.specs.declared.answering.answer.Answer.{Answer}
use Rattle.idl_env.specs.declared.answering.answer.Scope.{Scope}
use Rattle.idl_env.specs.declared.keys.key.Key.{Key}
use Rattle.idl_memo.specs.Query.{outcome}
use Rattle.idl_block.specs.facts.Answered.{AreProper, AreStops, Asking, IsClosing, IsProper}
use Rattle.idl_block.specs.facts.Beneath.{AreTwo, IsThere, StayWithin, StaysWithin, start}
use Rattle.idl_block.specs.facts.Known.{AskEnough, IsInside, IsTold, facts_at}
use Rattle.idl_block.specs.facts.Written.{ways_of}
use Rattle.idl_block.proofs.FactLaws.AnsweredLaws.{answered-behind}
use Rattle.idl_block.proofs.FactLaws.BalanceLaws.{are-two, length-dropped, length-more}

-- ---- one list of operations more than scopes that were opened

abbrev pub IsLevel : World → Type 0
IsLevel w = length w.inside ≡ suc (length w.before.opened)

level-closing : (w : World) (s t : Scope) (outer : List Scope) → IsLevel w → IsThere w.before.opened → IsLevel (after_closing w (s ∷ t ∷ outer))
level-closing w s t outer level there = by w.before.opened there level
  where
    by : {X : Type 0} (opened : List X) → IsThere opened → length w.inside ≡ suc (length opened) → length (drop 1 w.inside) ≡ suc (length (drop 1 opened))
    by [] there level = absurd there
    by (x ∷ opened) there level = length-dropped w.inside (suc (length opened)) level

level-step : (w : World) (step : Step) → IsLevel w → IsClosing w.answers step → IsInside w step → IsLevel (after_step w step)
level-step w Stays level closing inside = level
level-step w (Opens path kind) level closing inside = ap suc level
level-step w (OpensNameless kind) level closing inside = ap suc level
level-step w Closes level closing inside =
    subst (λ scopes. IsLevel (after_closing w scopes)) (sym closing.1.2) (level-closing w closing.0 closing.1.0 closing.1.1 level inside)
level-step w (Prefixes text) level closing inside = level
level-step w Enters level closing inside = level
level-step w Leaves level closing inside = level

inside-added : (w : World) (f : UnitFacts) (step : Step) → IsInside w step → IsInside (with_additions f.additions w) step
inside-added w f Closes h = h
inside-added w f Leaves h = h
inside-added w f other h = tt

level-after : (w : World) (f : UnitFacts) → IsLevel w → IsTold w f → IsLevel (after w f)
level-after w f level told =
    level-step (with_additions f.additions w) f.step (length-more w.inside (operations_among f.additions) ∙ level) told.proper.closing (inside-added w f f.step told.inside)

within-told : (w : World) (step : Step) → IsLevel w → IsInside w step → StaysWithin w step
within-told w Closes level inside = (are-two w.inside (by w.before.opened inside level), inside)
  where
    by : {X : Type 0} (opened : List X) → IsThere opened → length w.inside ≡ suc (length opened) → 1 < length w.inside
    by [] there level = absurd there
    by (x ∷ opened) there level = omega (arith, level)
within-told w Leaves level inside = by w.before.entered inside
  where
    by : {X : Type 0} (entered : List X) → AreTwo entered → IsThere entered
    by [] two = two
    by (x ∷ entered) two = tt
within-told w other level inside = tt

-- ---- facts one after another

proper-append : (w : World) (facts : List UnitFacts) (f : UnitFacts) → AreProper w facts → IsProper (after_all w facts) f → AreProper w (facts ++ f ∷ [])
proper-append w [] f are one = (one, tt)
proper-append w (g ∷ facts) f are one = (are.0, proper-append (after w g) facts f are.1 one)

within-append : (w : World) (facts : List UnitFacts) (f : UnitFacts) → StayWithin w facts → StaysWithin (after_all w facts) f.step → StayWithin w (facts ++ f ∷ [])
within-append w [] f stay one = (one, tt)
within-append w (g ∷ facts) f stay one = (stay.0, within-append (after w g) facts f stay.1 one)

pub after-more : (w : World) (facts : List UnitFacts) (f : UnitFacts) → after_all w (facts ++ f ∷ []) ≡ after (after_all w facts) f
after-more w [] f = refl
after-more w (g ∷ facts) f = after-more (after w g) facts f

-- what is known of what a block has written over a bank
pub record IsSound (bank : Key → Option Answer) (written : List UnitFacts) : Type 0 where
  pub proper : AreProper (start bank) written
  pub within : StayWithin (start bank) written
  pub level : IsLevel (after_all (start bank) written)

pub sound-more : (bank : Key → Option Answer) (written : List UnitFacts) (f : UnitFacts) → IsSound bank written → IsTold (after_all (start bank) written) f → IsSound bank (written ++ f ∷ [])
sound-more bank written f sound told =
    let w : World = after_all (start bank) written in
    record {
      proper = proper-append (start bank) written f sound.proper told.proper;
      within = within-append (start bank) written f sound.within (within-told w f.step sound.level told.inside);
      level = subst IsLevel (sym (after-more (start bank) written f)) (level-after w f sound.level told);
    }

pub first-sound : (bank : Key → Option Answer) → IsSound bank (boundary Enters ∷ [])
first-sound bank = record {
  proper = (record { stops = All-nil (AreStops bank); named = tt; closing = tt }, tt);
  within = (tt, tt);
  level = refl;
}

module _ {T O : Type 0} (unit : T → Asking O) (writes : O → UnitFacts) where
  abbrev ways : Ways Key (Option Answer) (Unit {0}) T Step UnitFacts O
  ways = ways_of unit writes

  over-from : (before : List UnitFacts) (parts : List (Part T Step)) (written : List UnitFacts) → IsSound (answers before) written → AskEnough unit writes (answers before) parts written
      → AreOver ways answers before parts written
  over-from before [] written sound enough = All-nil (IsOver ways answers before)
  over-from before (part ∷ parts) written sound enough =
      let bank : Key → Option Answer = answers before in
      let f : UnitFacts = facts_at unit writes bank part written in
      let here : IsOver ways answers before written = λ k. answered-behind before written k sound.proper sound.within in
      let rest : AreOver ways answers before parts (written ++ f ∷ []) = over-from before parts (written ++ f ∷ []) (sound-more bank written f sound enough.0.1) enough.1 in
      by part here rest
    where
      by : (part : Part T Step) → IsOver ways answers before written → AreOver ways answers before parts (written ++ facts_at unit writes (answers before) part written ∷ []) → AreOver ways answers before (part ∷ parts) written
      by (Boundary step) here rest = All-cons (IsOver ways answers before) written (befores ways parts (written ++ boundary step ∷ []) (answers before)) here rest
      by (Text t) here rest = All-cons (IsOver ways answers before) written (befores ways parts (written ++ facts_at unit writes (answers before) (Text t) written ∷ []) (answers before)) here rest

  -- what a block has written is sound
  sound-from : (bank : Key → Option Answer) (parts : List (Part T Step)) (written : List UnitFacts) → IsSound bank written → AskEnough unit writes bank parts written
      → IsSound bank (outcome (block ways parts written) bank).1
  sound-from bank [] written sound enough = sound
  sound-from bank (Boundary step ∷ parts) written sound enough =
      sound-from bank parts (written ++ boundary step ∷ []) (sound-more bank written (boundary step) sound enough.0.1) enough.1
  sound-from bank (Text t ∷ parts) written sound enough =
      let f : UnitFacts = facts_at unit writes bank (Text t) written in
      subst (IsSound bank) (sym (ap (λ (e : List O × List UnitFacts). e.1) (outcome-unit ways t parts written bank)))
      (sound-from bank parts (written ++ f ∷ []) (sound-more bank written f sound enough.0.1) enough.1)

  pub sound-block : (bank : Key → Option Answer) (parts : List (Part T Step)) → AskEnough unit writes bank parts (boundary Enters ∷ [])
      → IsSound bank (outcome (block ways parts (boundary Enters ∷ [])) bank).1
  sound-block bank parts enough = sound-from bank parts (boundary Enters ∷ []) (first-sound bank) enough

  -- what a block writes lies over what stands before it
  pub over-block : (before : List UnitFacts) (parts : List (Part T Step)) → AskEnough unit writes (answers before) parts (boundary Enters ∷ [])
      → AreOver ways answers before parts (boundary Enters ∷ [])
  over-block before parts enough = over-from before parts (boundary Enters ∷ []) (first-sound (answers before)) enough
