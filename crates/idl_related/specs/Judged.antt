-- How second places are gathered, unit by unit.
use Rattle.std.specs.Prelude.{◌≡◌, ◌++◌, ℕ, true, List, All, map}
use Rattle.idl_event.specs.declared.told.event.Event.{Event}
use Rattle.idl_event.specs.declared.told.site.Site.{Site}
use Rattle.idl_env.specs.Facts.{UnitFacts}
use Rattle.idl_related.specs.FirstDeclared.{UnitsBefore, names_after, told_by, without_other_places}
use Rattle.idl_related.specs.Related.{AreOfFinding}
use Rattle.idl_related.specs.declared.judged.JudgedUnits.{JudgedUnits}
use Rattle.idl_related.specs.declared.told.RelatedPlaces.{RelatedPlaces}
use Rattle.idl_related.specs.declared.judged.SpelledUnit.{SpelledUnit}
use Rattle.idl_unit.specs.Units.{units_of}
use Rattle.idl_unit.specs.declared.unit.Unit.{Unit as RootUnit}
use Rattle.idl_unit.specs.declared.unit.UnitText.{UnitText}

-- what is told of findings of the root
abbrev pub AreOfFindings : List Event → List RelatedPlaces → Type 0
AreOfFindings events told = All (λ t. AreOfFinding events t.related) told

-- the units are those of what the root expands to, and what is told is of its findings
pub record IsOfRoot (judged : JudgedUnits) : Type 0 where
  pub units : judged.known.units.now ≡ units_of judged.expansion.now
  pub told : AreOfFindings judged.expansion.now judged.told.items

-- the units before the one with a number, which add these facts
abbrev pub units_before : JudgedUnits → List UnitFacts → ℕ → UnitsBefore
units_before judged facts number =
    record { facts = facts; names = judged.first; number = number }

-- those before one with tokens
abbrev pub before_spelled : JudgedUnits → SpelledUnit → UnitsBefore
before_spelled judged unit = units_before judged unit.env.now unit.number

-- its text, and where each token stands
abbrev pub text_and_sites : SpelledUnit → UnitText × List Site
text_and_sites unit = (unit.text.now, unit.sites.now)

-- behind a unit, before which these are
pub record IsBehind (old new : JudgedUnits) (before : UnitsBefore) (unit : RootUnit) : Type 0 where
  pub expansion : new.expansion.now ≡ old.expansion.now
  pub asks : new.asks_first ≡ old.asks_first
  pub names : old.asks_first ≡ true → new.first ≡ names_after before unit
  pub told :
      map without_other_places new.told.items
      ≡ map without_other_places old.told.items
      ++ told_by old.expansion.now before unit
