-- Second places of what is found in a root.
use Rattle.std.specs.Prelude.{◌≡◌, ◌≤◌, ℕ, true, List, All, Contains, Some, length, slice_get}
use Rattle.std.specs.List.{list_any}
use Rattle.idl_event.specs.declared.told.event.Event.{Event}
use Rattle.idl_event.specs.declared.told.site.Site.{Site}
use Rattle.idl_event.specs.Apart.{place_in}
use Rattle.idl_related.specs.FirstDeclared.{AreAssigned}
use Rattle.idl_related.specs.declared.second.Related.{Related}
use Rattle.idl_finding.specs.Findings.{site_of, tokens_of}
use Rattle.idl_finding.specs.Number.{token_number}
use Rattle.idl_finding.specs.declared.finding.Finding.{Finding}
use Rattle.idl_related.specs.Told.{is_redeclaration, most_told}
use Rattle.idl_unit.specs.Units.{units_of}
use Rattle.idl_unit.specs.declared.unit.Unit.{Unit as RootUnit}
use Rattle.idl_unit.specs.declared.unit.Unit.TheVariants.{Spelled}
use Rattle.idl_unit.specs.declared.unit.UnitText.{UnitText}

-- it is told of a token of one of these units as a finding there would be: where the token stands,
-- its number, and how it is spelled
pub record IsAtToken (events : List Event) (units : List RootUnit) (related : Related)
    : Type 0 where
  pub text : UnitText
  pub sites : List Site
  pub index : ℕ
  pub site : Site
  pub unit : Contains units (Spelled text sites)
  pub stands : site_of text sites index ≡ Some site
  pub spelled : slice_get (tokens_of text) index ≡ Some related.text
  pub place : related.place ≡ place_in site
  pub number : related.number ≡ token_number events site.event

-- second places, each at a token of what a root expands to
abbrev pub AreAtTokens : List Event → List Related → Type 0
AreAtTokens events related = All (IsAtToken events (units_of events)) related

-- those of a finding: a few
pub record AreOfFinding (events : List Event) (related : List Related) : Type 0 where
  pub few : length related ≤ most_told
  pub tokens : AreAtTokens events related

-- one of these is a redeclaration
abbrev pub HasRedeclaration : List Finding → Type 0
HasRedeclaration findings = list_any (λ f. is_redeclaration f.code) findings ≡ true

-- Those of findings of that root, a list for each. Where one is a redeclaration, they are to be all
-- that is found in the root, in order, or the first of it: which places are whose is told by where
-- they stand among these.
pub record AreRelated (events : List Event) (findings : List Finding)
    (related : List (List Related)) : Type 0 where
  pub count : length related ≡ length findings
  pub lists : All (AreOfFinding events) related
  pub first_declared : HasRedeclaration findings → AreAssigned events findings related
