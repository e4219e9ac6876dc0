-- What has come of a root so far, and what is still to come.
use Rattle.std.specs.Prelude.{◌≡◌, List, ◌++◌, flat_map, map}
use Rattle.idl_event.specs.declared.told.event.Event.{Event}
use Rattle.idl_fault.specs.declared.place.Place.{Place}
use Rattle.idl_root.specs.Compile.{Outcome, findings_told, is_open, row_in, rows_of_findings}
use Rattle.idl_root.specs.Findings.{unit_finding}
use Rattle.idl_root.specs.Judged.{Judged, facts_after, judged_after}
use Rattle.idl_root.specs.Printed.{Listed, closing_finding, entry_row, listed_in}
use Rattle.idl_root.specs.declared.compiling.compiled.Compiled.{Compiled}
use Rattle.idl_root.specs.declared.compiling.judging.Ended.{Ended}
use Rattle.idl_root.specs.declared.compiling.judging.Accumulator.{Accumulator}
use Rattle.idl_root.specs.declared.compiling.judging.RootState.{RootState}
use Rattle.idl_root.specs.declared.compiling.printing.Listed.{Listed as HeldListed}
use Rattle.idl_env.specs.Facts.{UnitFacts}
use Rattle.idl_unit.specs.declared.unit.Unit.{Unit as RootUnit}

-- a name that has an id, as the code holds it
abbrev pub listed_at : HeldListed → Listed
listed_at l = record { path = l.path; text = l.unit.text.now; sites = l.unit.sites.now }

-- what has come so far, where these facts are added and this is gathered
abbrev pub with_gathered : List UnitFacts → Accumulator → Outcome
with_gathered facts g = record {
  facts = facts;
  found = g.findings.items;
  rows = g.rows.items;
  listed = map listed_at g.listed.items;
}

abbrev pub held : RootState → Outcome
held j = with_gathered j.env j.gathered

-- with what is gathered of one unit more, and of these units more, over the same facts
abbrev pub with_judged : Outcome → Judged → Outcome
with_judged o j = record {
  facts = o.facts;
  found = o.found ++ unit_finding j;
  rows = o.rows ++ row_in j;
  listed = o.listed ++ listed_in j;
}

abbrev pub with_units : Outcome → List Judged → Outcome
with_units o judged = record {
  facts = o.facts;
  found = o.found ++ flat_map unit_finding judged;
  rows = o.rows ++ flat_map row_in judged;
  listed = o.listed ++ flat_map listed_in judged;
}

-- what comes of it with these units
abbrev pub to_come : Outcome → List RootUnit → Outcome
to_come o units =
    let judged = judged_after o.facts units in
    record {
      facts = facts_after o.facts units;
      found = o.found ++ flat_map unit_finding judged;
      rows = o.rows ++ flat_map row_in judged;
      listed = o.listed ++ flat_map listed_in judged;
    }

-- this has come of all units and names
pub record IsEnded (ended : Ended) (o : Outcome) : Type 0 where
  pub found : ended.findings.items ≡ o.found
  pub rows : ended.rows.items ≡ o.rows
  pub scopes : ended.is_open ≡ is_open o.facts
  pub closing : ended.printed.findings.items ≡ flat_map (closing_finding o.facts) o.listed
  pub listing : ended.printed.rows.items ≡ flat_map (entry_row o.facts) o.listed

-- what is told of it
abbrev pub told_of : Place → List Event → Ended → Compiled
told_of end events e =
    rows_of_findings
    (findings_told end events e.findings.items e.is_open e.printed.findings.items) e.is_open
    e.printed.rows.items e.rows.items
