-- What comes of a root, unit by unit.
use Rattle.std.proofs.Common.{◌≡◌, List, [], ◌∷◌, ◌++◌, flat_map, ap, sym, ◌∙◌, append-nil, append_assoc}
use Rattle.std.specs.List.{enumerate_from}
use Rattle.std.proofs.lemmas.Grind.{flat_map-append}
use Rattle.idl_event.specs.declared.told.event.Event.{Event}
use Rattle.idl_fault.specs.declared.place.Place.{Place}
use Rattle.idl_root.specs.Compile.{Outcome, findings_told, outcome_of, row_in, rows_of_findings, told}
use Rattle.idl_finding.specs.Findings.{event_finding}
use Rattle.idl_root.specs.Findings.{unit_finding}
use Rattle.idl_root.specs.Held.{IsEnded, to_come, told_of, with_gathered, with_judged, with_units}
use Rattle.idl_root.specs.Judged.{Judged, facts_after, judged_after, judged_at}
use Rattle.idl_root_blocks.specs.idl_check.walk.Verdict.{added}
use Rattle.idl_root.specs.Printed.{listed_in}
use Rattle.idl_root.specs.declared.compiling.judging.Ended.{Ended}
use Rattle.idl_root.specs.declared.compiling.judging.Accumulator.{Accumulator}
use Rattle.idl_env.specs.Facts.{UnitFacts}
use Rattle.idl_unit.specs.Units.{units_of}
use Rattle.idl_unit.specs.declared.unit.Unit.{Unit as RootUnit}

-- what comes of some, and then of others, behind what there is
behind : {A : Type 0} (f : Judged → List A) (there : List A) (own judged : List Judged)
    → (there ++ flat_map f own) ++ flat_map f judged ≡ there ++ flat_map f (own ++ judged)
behind f there own judged = append_assoc there (flat_map f own) (flat_map f judged) ∙ ap (λ l. there ++ l) (sym (flat_map-append f own judged))

-- what comes of one unit, and then of those behind it
pub to_come-cons : (o next : Outcome) (u : RootUnit) (units : List RootUnit)
    → next ≡ record {
      facts = o.facts ++ added o.facts u;
      found = o.found ++ flat_map unit_finding (judged_at o.facts u);
      rows = o.rows ++ flat_map row_in (judged_at o.facts u);
      listed = o.listed ++ flat_map listed_in (judged_at o.facts u);
    }
    → to_come next units ≡ to_come o (u ∷ units)
unfolding judged_after facts_after
to_come-cons o next u units is =
    let facts = o.facts ++ added o.facts u in
    let own = judged_at o.facts u in
    let judged = judged_after facts units in
    let found = behind unit_finding o.found own judged in
    let rows = behind row_in o.rows own judged in
    let listed = behind listed_in o.listed own judged in
    ap (λ n. to_come n units) is ∙ (λ i. record { facts = facts_after facts units; found = found i; rows = rows i; listed = listed i })

-- one unit with what is gathered of it, and none
pub with-one : (o : Outcome) (j : Judged) → with_judged o j ≡ with_units o (j ∷ [])
with-one o j = λ i. record {
  facts = o.facts;
  found = o.found ++ sym (append-nil (unit_finding j)) i;
  rows = o.rows ++ sym (append-nil (row_in j)) i;
  listed = o.listed ++ sym (append-nil (listed_in j)) i;
}

pub with-none : (o : Outcome) → o ≡ with_units o []
with-none o = λ i. record {
  facts = o.facts;
  found = sym (append-nil o.found) i;
  rows = sym (append-nil o.rows) i;
  listed = sym (append-nil o.listed) i;
}

-- what comes of a unit, of which this is added and gathered, and of those behind it
pub to_come-more : (facts own after : List UnitFacts) (old new : Accumulator) (u : RootUnit) (units : List RootUnit)
    → own ≡ added facts u → after ≡ facts ++ own
    → ((fs : List UnitFacts) → with_gathered fs new ≡ with_units (with_gathered fs old) (judged_at facts u))
    → to_come (with_gathered after new) units ≡ to_come (with_gathered facts old) (u ∷ units)
to_come-more facts own after old new u units is adds gathers =
    to_come-cons (with_gathered facts old) (with_gathered after new) u units
    (gathers after ∙ ap (λ fs. with_units (with_gathered fs old) (judged_at facts u)) (adds ∙ ap (λ a. facts ++ a) is))

-- nothing is to come any more
pub to_come-end : (o : Outcome) → to_come o [] ≡ o
unfolding judged_after facts_after
to_come-end o = λ i. record { facts = o.facts; found = append-nil o.found i; rows = append-nil o.rows i; listed = append-nil o.listed i }

-- all is to come
pub to_come-start : (events : List Event) (o : Outcome)
    → o ≡ record { facts = []; found = flat_map event_finding (enumerate_from 0 events); rows = []; listed = [] }
    → to_come o (units_of events) ≡ outcome_of events
to_come-start events o is = ap (λ n. to_come n (units_of events)) is

-- what is told where all is done
pub told-ended : (end : Place) (events : List Event) (e : Ended) (o : Outcome) → IsEnded e o → told_of end events e ≡ told end events o
told-ended end events e o is = λ i.
    rows_of_findings (findings_told end events (is.found i) (is.scopes i) (is.closing i)) (is.scopes i) (is.listing i) (is.rows i)
