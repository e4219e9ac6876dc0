-- What a root compiles to, said of its units one by one: each has its verdict over the facts of
-- those before it. No bound on turns is in it.
use Rattle.std.specs.Prelude.{◌≡◌, List, [], ◌∷◌, ◌++◌, flat_map}
use Rattle.idl_env.specs.Facts.{UnitFacts, boundary}
use Rattle.idl_env.specs.declared.additions.addition.Step.TheVariants.{Enters, Leaves}
use Rattle.idl_event.specs.declared.told.event.Event.{Event}
use Rattle.idl_fault.specs.declared.place.Place.{Place}
use Rattle.idl_root.specs.Compile.{Outcome, findings, row_in, told}
use Rattle.idl_root.specs.Judged.{Judged}
use Rattle.idl_root.specs.Printed.{listed_in}
use Rattle.idl_root.specs.Verdict.{IsVerdict}
use Rattle.idl_root.specs.declared.compiling.compiled.Compiled.{Compiled}
use Rattle.idl_root_blocks.specs.idl_check.declared.walk.verdict.Verdict.{Verdict}
use Rattle.idl_unit.specs.Units.{units_of}
use Rattle.idl_unit.specs.declared.unit.Unit.{Unit as RootUnit}
use Rattle.idl_unit.specs.declared.unit.Unit.TheVariants.{Spelled, Entered, Left, End}

-- Units behind facts, in order, those that have tokens with their verdicts, and the facts behind
-- them.
abbrev pub AreJudged : List UnitFacts → List RootUnit → List Judged → List UnitFacts → Type 0
AreJudged facts [] judged last = (judged ≡ []) × (last ≡ facts)
AreJudged facts (Spelled text sites ∷ units) judged last =
    (v : Verdict) × (others : List Judged) × IsVerdict facts text v
    × AreJudged (facts ++ v.writes ∷ []) units others last
    × (judged ≡ record { text = text; sites = sites; verdict = v } ∷ others)
AreJudged facts (Entered file inside ∷ units) judged last =
    AreJudged (facts ++ boundary Enters ∷ []) units judged last
AreJudged facts (Left file inside ∷ units) judged last =
    AreJudged (facts ++ boundary Leaves ∷ []) units judged last
AreJudged facts (End ∷ units) judged last = AreJudged facts units judged last

-- what comes of units that are judged so, behind which these facts stand
abbrev pub outcome_over : List Event → List Judged → List UnitFacts → Outcome
outcome_over events judged facts = record {
  facts = facts;
  found = findings events judged;
  rows = flat_map row_in judged;
  listed = flat_map listed_in judged;
}

-- what a root compiles to that expands to these events, and whose end is this place
pub record CompilesTo (end : Place) (events : List Event) (compiled : Compiled) : Type 0 where
  pub judged : List Judged
  pub facts : List UnitFacts
  pub are_judged : AreJudged [] (units_of events) judged facts
  pub is : compiled ≡ told end events (outcome_over events judged facts)
