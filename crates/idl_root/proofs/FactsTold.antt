-- The facts of a root are told, each behind those before it, and counted.
use Rattle.std.proofs.Common.{◌≡◌, ◌≤◌, ◌<◌, ◌^◌, ◌∙◌, List, [], ◌∷◌, ◌++◌, arith, refl, subst, sym, ap}
use Rattle.idl_root_blocks.proofs.IdlCheckLaws.ToldLaws.{MoreTurns, said-alike, told-more, told-nothing, turns-grow}
use Rattle.idl_root_blocks.specs.idl_check_laws.Closing.{AreTold, IsTold as told}
use Rattle.idl_root_blocks.specs.idl_check.declared.walk.verdict.Verdict.{Verdict}
use Rattle.idl_root.specs.Judged.{HasTurns, facts_after}
use Rattle.idl_root_blocks.specs.idl_check.walk.Verdict.{added}
use Rattle.idl_root.specs.Turns.{FitsU64}
use Rattle.idl_env.specs.Facts.{UnitFacts, answers, count_in}
use Rattle.idl_env.specs.Turns.{most_turns, turns_for}
use Rattle.idl_env.specs.declared.keys.key.Key.TheVariants.{Nameless}
use Rattle.idl_event.specs.declared.told.event.Event.{Event}
use Rattle.idl_unit.specs.Units.{units_of}
use Rattle.idl_unit.specs.declared.unit.Unit.{Unit as RootUnit}
use Rattle.idl_unit.specs.declared.unit.Unit.TheVariants as unit

-- units need no fewer turns with others behind them
pub turns-after : (units : List RootUnit) (facts : List UnitFacts) → turns_for facts ≤ turns_for (facts_after facts units)
unfolding facts_after
turns-after [] facts = omega arith
turns-after (u ∷ units) facts =
    let one = turns-grow facts (added facts u) in
    let rest = turns-after units (facts ++ added facts u) in
    omega (arith, one, rest)

-- units, and then others
pub after-append : (units more : List RootUnit) (facts : List UnitFacts) → facts_after facts (units ++ more) ≡ facts_after (facts_after facts units) more
unfolding facts_after
after-append [] more facts = refl
after-append (u ∷ units) more facts = after-append units more (facts ++ added facts u)

-- and so none before them needs more
pub turns-before : (units more : List RootUnit) → HasTurns (units ++ more) → HasTurns units
turns-before units more enough =
    let all = ap turns_for (after-append units more []) in
    let rest = turns-after more (facts_after [] units) in
    omega (arith, all, rest, enough)

-- facts that words count, of the units of a root
pub within-words : (events : List Event) (facts : List UnitFacts) → facts ≡ facts_after [] (units_of events)
    → turns_for facts ≤ most_turns → count_in (answers facts Nameless) < 2 ^ 64 → FitsU64 events
within-words events facts is turns count = record {
  turns = subst (λ (fs : List UnitFacts). turns_for fs ≤ most_turns) is turns;
  nameless = subst (λ (fs : List UnitFacts). count_in (answers fs Nameless) < 2 ^ 64) is count;
}

module _ (more : MoreTurns) where
  added-told : (facts : List UnitFacts) (u : RootUnit) → turns_for facts ≤ most_turns → AreTold facts → AreTold (facts ++ added facts u)
  added-told facts (unit.Spelled text sites) enough h = told-more facts _ h (told.Unit text (ap (λ (v : Verdict). v.writes) (said-alike more facts text enough)))
  added-told facts (unit.Entered file inside) enough h = told-more facts _ h (told.Entered refl)
  added-told facts (unit.Left file inside) enough h = told-more facts _ h (told.Left refl)
  added-told facts unit.End enough h = λ front g back is. h front g back (sym (none facts) ∙ is)
    where
      none : (fs : List UnitFacts) → fs ++ [] ≡ fs
      none [] = refl
      none (f ∷ fs) = ap (λ gs. f ∷ gs) (none fs)

  after-told : (units : List RootUnit) (facts : List UnitFacts) → turns_for (facts_after facts units) ≤ most_turns → AreTold facts → AreTold (facts_after facts units)
  unfolding facts_after
  after-told [] facts enough h = h
  after-told (u ∷ units) facts enough h =
      let here = turns-grow facts (added facts u) in
      let there = turns-after units (facts ++ added facts u) in
      after-told units (facts ++ added facts u) enough (added-told facts u (omega (arith, here, there, enough)) h)

  pub facts-told : (units : List RootUnit) → HasTurns units → AreTold (facts_after [] units)
  facts-told units enough = after-told units [] enough told-nothing
