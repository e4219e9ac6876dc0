-- The units of a root, each with its verdict over what the units and file boundaries before it
-- added.
use Rattle.std.specs.Prelude.{◌≤◌, List, [], ◌∷◌, ◌++◌}
use Rattle.idl_root_blocks.specs.idl_check.walk.Verdict.{added, verdict_over}
use Rattle.idl_root_blocks.specs.idl_check.declared.walk.verdict.Verdict.{Verdict}
use Rattle.idl_event.specs.declared.told.site.Site.{Site}
use Rattle.idl_env.specs.Facts.{UnitFacts}
use Rattle.idl_env.specs.Turns.{most_turns, turns_for}
use Rattle.idl_unit.specs.declared.unit.Unit.{Unit as RootUnit}
use Rattle.idl_unit.specs.declared.unit.Unit.TheVariants.{Spelled}
use Rattle.idl_unit.specs.declared.unit.UnitText.{UnitText}

-- a unit with tokens: its text, where each token stands, and its verdict
pub record Judged : Type 0 where
  pub text : UnitText
  pub sites : List Site
  pub verdict : Verdict

-- a unit over facts
abbrev pub judged_over : List UnitFacts → UnitText → List Site → Judged
judged_over facts text sites =
    record { text = text; sites = sites; verdict = verdict_over facts text }

-- a unit of a root with its verdict, if it has tokens
abbrev pub judged_at : List UnitFacts → RootUnit → List Judged
judged_at facts (Spelled text sites) = judged_over facts text sites ∷ []
judged_at facts other = []

-- those of units in order, before the first of which these facts stand
unfoldable pub judged_after : List UnitFacts → List RootUnit → List Judged
judged_after facts [] = []
judged_after facts (u ∷ units) = judged_at facts u ++ judged_after (facts ++ added facts u) units

-- these facts and those that the units add
unfoldable pub facts_after : List UnitFacts → List RootUnit → List UnitFacts
facts_after facts [] = facts
facts_after facts (u ∷ units) = facts_after (facts ++ added facts u) units

-- what these units add needs no more turns than a verdict is taken with
abbrev pub HasTurns : List RootUnit → Type 0
HasTurns units = turns_for (facts_after [] units) ≤ most_turns
