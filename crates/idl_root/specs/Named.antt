-- The units of a root with their names, each over the facts before it, and where what they declare
-- ends.
use Rattle.std.specs.Prelude.{◌≡◌, ℕ, Bool, true, false, List, [], ◌∷◌, ◌++◌, drop, filter, map, slice_get, None, Some, if◌then◌else◌}
use Rattle.std.specs.Option.{unwrap_or}
use Rattle.idl_root_blocks.specs.idl_check.declared.walk.names.NameRole.TheVariants.{Declared, Used}
use Rattle.idl_root_blocks.specs.idl_check.declared.walk.names.NamedSite.{NamedSite}
use Rattle.idl_root_blocks.specs.idl_check.walk.Names.{unit_names}
use Rattle.idl_env.specs.Facts.{UnitFacts, answers}
use Rattle.idl_env.specs.Turns.{most_turns}
use Rattle.idl_env.specs.declared.additions.addition.Step.{Step}
use Rattle.idl_env.specs.declared.additions.addition.Step.TheVariants.{Opens, OpensNameless, Closes}
use Rattle.idl_event.specs.declared.told.site.Site.{Site}
use Rattle.idl_root_blocks.specs.idl_check.walk.Verdict.{added, verdict_over}
use Rattle.idl_root.specs.declared.compiling.naming.NamedUnit.{NamedUnit as HeldNamedUnit}
use Rattle.idl_unit.specs.TokenRules.{first}
use Rattle.idl_unit.specs.declared.unit.Unit.{Unit as RootUnit}
use Rattle.idl_unit.specs.declared.unit.Unit.TheVariants.{Spelled}
use Rattle.idl_unit.specs.declared.unit.UnitText.{UnitText}

-- a unit with tokens: its text, where each token stands, its names, and how it changes the open
-- scopes
pub record NamedUnit : Type 0 where
  pub text : UnitText
  pub sites : List Site
  pub names : List NamedSite
  pub step : Step

-- such a unit as the code holds it
abbrev pub named_as : HeldNamedUnit → NamedUnit
named_as u = record {
  text = u.unit.text.now;
  sites = u.unit.sites.now;
  names = u.names.items;
  step = u.step;
}

-- a name that is used
abbrev pub is_used : NamedSite → Bool
is_used n = elim n.role [ Declared ↦ false | Used ↦ true ]

-- the names of a text over facts: of one with a fault, which declares nothing, those that are used
abbrev pub names_over : List UnitFacts → UnitText → List NamedSite
names_over facts text =
    let names = unit_names most_turns (answers facts) text in
    elim (verdict_over facts text).fault [ None ↦ names | Some fault ↦ filter is_used names ]

-- a unit over facts
abbrev pub named_over : List UnitFacts → UnitText → List Site → NamedUnit
named_over facts text sites = record {
  text = text;
  sites = sites;
  names = names_over facts text;
  step = (verdict_over facts text).writes.step;
}

-- it with its names, if it has tokens
abbrev pub named_at : List UnitFacts → RootUnit → List NamedUnit
named_at facts (Spelled text sites) = named_over facts text sites ∷ []
named_at facts other = []

-- those of units in order, before the first of which these facts stand
unfoldable pub named_after : List UnitFacts → List RootUnit → List NamedUnit
named_after facts [] = []
named_after facts (u ∷ units) = named_at facts u ++ named_after (facts ++ added facts u) units

-- a step opens a scope, or closes one
abbrev pub opens : Step → Bool
opens (Opens path kind) = true
opens (OpensNameless kind) = true
opens other = false

abbrev pub closes : Step → Bool
closes Closes = true
closes other = false

-- the closings behind something that takes this step, where these are behind that: one more, or one
-- less
abbrev pub closings_from : {X : Type 0} → Step → X → List X → List X
closings_from step x closings =
    if opens step then drop 1 closings else if closes step then x ∷ closings else closings

-- the closings among units of what is opened before them, the innermost first
abbrev pub closings_in : List NamedUnit → List NamedUnit
closings_in [] = []
closings_in (n ∷ units) = closings_from n.step n (closings_in units)

-- that in which ends what is declared by something that takes this step, behind which these closings
-- stand: of an opening the first of them, if there is one, and else itself
abbrev pub end_before : {X : Type 0} → Step → X → List X → X
end_before step x closings = if opens step then unwrap_or (first closings) x else x

-- the units in which that ends what units declare, in order
abbrev pub ends_of : List NamedUnit → List NamedUnit
ends_of [] = []
ends_of (n ∷ units) = end_before n.step n (closings_in units) ∷ ends_of units

-- these are the numbers of items
abbrev pub AreNumbersIn : {X : Type 0} → List X → List ℕ → List X → Type 0
AreNumbersIn all numbers items = map (slice_get all) numbers ≡ map Some items
