-- What a block in a block has written lies over what the one around it has.
use Rattle.std.proofs.Common.{◌≡◌, Bool, true, false, ◌||◌, List, [], ◌∷◌, ◌++◌, Option, refl, sym, ap, ◌∙◌, subst}
use Rattle.std.proofs.lemmas.List.Elements.{All-cons, All-nil}
use Rattle.idl_block.specs.Behind.{laid}
use Rattle.idl_block.specs.Blocks.{Boundary, Part, Text, Ways}
use Rattle.idl_block.specs.Questions.{AreNested, IsNested, befores}
use Rattle.idl_env.specs.Facts.{UnitFacts, World, after, after_all, boundary}
use Rattle.idl_env.specs.Written.{writes_at, written_from}
use Rattle.idl_env.specs.declared.additions.addition.Step.{Step}
use Rattle.idl_env.specs.declared.additions.addition.Step.TheVariants.{Enters}
use Rattle.idl_env.specs.declared.answering.answer.Answer.{Answer}
use Rattle.idl_env.specs.declared.keys.key.Key.{Key}
use Rattle.idl_block.specs.facts.Answered.{AreProper, Asking, answered}
use Rattle.idl_block.specs.facts.Beneath.{IsThere, StayWithin, answers_over, onto, start}
use Rattle.idl_block.specs.facts.Known.{AskEnough, facts_at}
use Rattle.idl_block.specs.facts.Written.{is_written, ways_of}
use Rattle.idl_block.proofs.FactLaws.AnsweredLaws.{answered-over}
use Rattle.idl_block.proofs.FactLaws.BeneathLaws.{after-onto, after_all-append, all-onto, start-onto, there-after}
use Rattle.idl_block.proofs.FactLaws.WalkLaws.{IsSound, first-sound, sound-more}
use Rattle.idl_block.proofs.FactLaws.WrittenLaws.{written-onto}

-- ---- on another world

proper-onto : (v beneath : World) (facts : List UnitFacts) → IsThere v.inside → StayWithin v facts → AreProper v facts → AreProper (onto v beneath) facts
proper-onto v beneath [] there within proper = tt
proper-onto v beneath (f ∷ facts) there within proper = (
  record { stops = proper.0.stops; named = proper.0.named; closing = proper.0.closing },
  subst (λ w. AreProper w facts) (sym (after-onto v beneath f there within.0))
      (proper-onto (after v f) beneath facts (there-after v f there within.0) within.1 proper.1),
)

-- ---- one list behind another

proper-both : (w : World) (facts more : List UnitFacts) → AreProper w facts → AreProper (after_all w facts) more → AreProper w (facts ++ more)
proper-both w [] more are then = then
proper-both w (f ∷ facts) more are then = (are.0, proper-both (after w f) facts more are.1 then)

or_joined : (a b c : Bool) → (a || (b || c)) ≡ ((a || b) || c)
or_joined true b c = refl
or_joined false b c = refl

or_turned : (a b : Bool) → (a || b) ≡ (b || a)
or_turned true true = refl
or_turned true false = refl
or_turned false true = refl
or_turned false false = refl

written-both : (w : World) (facts more : List UnitFacts) (k : Key) → written_from w (facts ++ more) k ≡ (written_from w facts k || written_from (after_all w facts) more k)
written-both w [] more k = refl
written-both w (f ∷ facts) more k =
    ap (λ b. writes_at w f k || b) (written-both (after w f) facts more k)
    ∙ or_joined (writes_at w f k) (written_from (after w f) facts k) (written_from (after_all (after w f) facts) more k)

module _ (bank : Key → Option Answer) (outer : List UnitFacts) (proper : AreProper (start bank) outer) where
  abbrev around : World
  around = after_all (start bank) outer

  abbrev there : Key → Option Answer
  there = laid answered outer bank

  -- what is answered there
  is-around : there ≡ around.answers
  is-around = λ i k. answered-over outer bank k proper i

  module _ (written : List UnitFacts) (sound : IsSound there written) where
    proper_there : AreProper (start around.answers) written
    proper_there = subst (λ b. AreProper (start b) written) is-around sound.proper

    within_there : StayWithin (start around.answers) written
    within_there = subst (λ b. StayWithin (start b) written) is-around sound.within

    proper_around : AreProper around written
    proper_around = subst (λ w. AreProper w written) (start-onto around) (proper-onto (start around.answers) around written tt within_there proper_there)

    answers_around : (after_all around written).answers ≡ answers_over written around.answers
    answers_around =
        ap (λ v. (after_all v written).answers) (sym (start-onto around))
        ∙ ap (λ (v : World). v.answers) (all-onto (start around.answers) around written tt within_there)

    written_around : (k : Key) → written_from around written k ≡ written_from (start around.answers) written k
    written_around k = ap (λ w. written_from w written k) (sym (start-onto around)) ∙ written-onto (start around.answers) around written k tt within_there

    nested-laid : (k : Key) → laid answered (outer ++ written) bank k ≡ laid answered written there k
    nested-laid k =
        answered-over (outer ++ written) bank k (proper-both (start bank) outer written proper proper_around)
        ∙ ap (λ (w : World). w.answers k) (after_all-append (start bank) outer written)
        ∙ ap (λ f. f k) answers_around
        ∙ ap (λ b. answers_over written b k) (sym is-around)
        ∙ sym (answered-over written there k sound.proper)

    nested-writes : (k : Key) → is_written (outer ++ written) bank k ≡ (is_written written there k || is_written outer bank k)
    nested-writes k =
        written-both (start bank) outer written k
        ∙ ap (λ b. is_written outer bank k || b) (written_around k ∙ ap (λ b. is_written written b k) (sym is-around))
        ∙ or_turned (is_written outer bank k) (is_written written there k)

  module _ {T O : Type 0} (unit : T → Asking O) (writes : O → UnitFacts) where
    abbrev ways : Ways Key (Option Answer) (Unit {0}) T Step UnitFacts O
    ways = ways_of unit writes

    nested-from : (parts : List (Part T Step)) (written : List UnitFacts) → IsSound there written → AskEnough unit writes there parts written → AreNested ways outer bank parts written
    nested-from [] written sound enough = All-nil (IsNested ways outer bank)
    nested-from (part ∷ parts) written sound enough =
        let f : UnitFacts = facts_at unit writes there part written in
        let here : IsNested ways outer bank written = record { laid_over = nested-laid written sound; writes = nested-writes written sound } in
        by part here (nested-from parts (written ++ f ∷ []) (sound-more there written f sound enough.0.1) enough.1)
      where
        by : (part : Part T Step) → IsNested ways outer bank written → AreNested ways outer bank parts (written ++ facts_at unit writes there part written ∷ []) → AreNested ways outer bank (part ∷ parts) written
        by (Boundary step) here rest = All-cons (IsNested ways outer bank) written (befores ways parts (written ++ boundary step ∷ []) there) here rest
        by (Text t) here rest = All-cons (IsNested ways outer bank) written (befores ways parts (written ++ facts_at unit writes there (Text t) written ∷ []) there) here rest

    -- what a block in a block writes lies over what the one around it has written
    pub nested-block : (parts : List (Part T Step)) → AskEnough unit writes there parts (boundary Enters ∷ []) → AreNested ways outer bank parts (boundary Enters ∷ [])
    nested-block parts enough = nested-from parts (boundary Enters ∷ []) (first-sound there) enough
