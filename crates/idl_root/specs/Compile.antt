-- What compiling a root gives, from the events that it expands to.
use Rattle.std.specs.Prelude.{ℕ, Bool, true, false, List, [], ◌∷◌, ◌++◌, flat_map, length, map, nat_lt, None, option_to_list}
use Rattle.std.specs.List.{enumerate_from, list_any}
use Rattle.idl_fault.specs.Code.{is_error}
use Rattle.idl_fault.specs.declared.code.Code.TheVariants.{OpenScope}
use Rattle.idl_event.specs.declared.told.event.Event.{Event}
use Rattle.idl_fault.specs.declared.place.Place.{Place}
use Rattle.idl_finding.specs.Findings.{event_finding, finding_row, in_order, numbered}
use Rattle.idl_root.specs.Findings.{unit_finding}
use Rattle.idl_root.specs.Judged.{Judged, facts_after, judged_after}
use Rattle.idl_root.specs.Printed.{Listed, closing_finding, entry_row, listed_in}
use Rattle.idl_root.specs.declared.compiling.compiled.Compiled.{Compiled}
use Rattle.idl_finding.specs.declared.finding.EventFinding.{EventFinding}
use Rattle.idl_finding.specs.declared.finding.Finding.{Finding}
use Rattle.idl_env.specs.Facts.{UnitFacts, answers, scopes_in}
use Rattle.idl_env.specs.declared.keys.key.Key.TheVariants.{Cursor}
use Rattle.idl_unit.specs.Units.{units_of}

-- what comes of a root: the facts that its units and file boundaries add, what is found, the rows
-- of the dump, and the names that have an id, in the order in which they are declared first
pub record Outcome : Type 0 where
  pub facts : List UnitFacts
  pub found : List EventFinding
  pub rows : List (List ℕ)
  pub listed : List Listed

-- the row of a unit, if it has one
abbrev pub row_in : Judged → List (List ℕ)
row_in j = option_to_list j.verdict.row

-- what is found in the events, and then what is found in the units
abbrev pub findings : List Event → List Judged → List EventFinding
findings events judged =
    flat_map event_finding (enumerate_from 0 events) ++ flat_map unit_finding judged

-- what comes of these events
abbrev pub outcome_of : List Event → Outcome
outcome_of events =
    let judged = judged_after [] (units_of events) in
    record {
      facts = facts_after [] (units_of events);
      found = findings events judged;
      rows = flat_map row_in judged;
      listed = flat_map listed_in judged;
    }

-- a scope beside the global one is open
abbrev pub is_open : List UnitFacts → Bool
is_open facts = nat_lt 1 (length (scopes_in (answers facts Cursor)))

-- what is found of a scope that is open at the end, which is this place
abbrev pub open_finding : Place → Bool → List Finding
open_finding end true =
    record { place = end; code = OpenScope; text = None; number = None } ∷ []
open_finding end false = []

-- one of them is an error
abbrev pub has_error : List Finding → Bool
has_error found = list_any (λ f. is_error f.code) found

-- rows, beside an error none
abbrev pub rows_beside : Bool → List (List ℕ) → List (List ℕ)
rows_beside false rows = rows
rows_beside true rows = []

-- what is found in events and units in the order of the events that it names, then an open scope at
-- the end, which is this place, and then what is never defined
abbrev pub findings_told : Place → List Event → List EventFinding → Bool → List EventFinding
    → List Finding
findings_told end events found is_open closing =
    (map (numbered events) (in_order found) ++ open_finding end is_open)
    ++ map (numbered events) closing

-- what is found in a root of these events, whose end is this place
abbrev pub all_findings : Place → List Event → Outcome → List Finding
all_findings end events o =
    findings_told end events o.found (is_open o.facts) (flat_map (closing_finding o.facts) o.listed)

-- what is found, a row each, and the rows of a listing and a dump where no error is among it
abbrev pub rows_of_findings : List Finding → Bool → List (List ℕ) → List (List ℕ) → Compiled
rows_of_findings findings is_open listing dump = record {
  findings = findings;
  diagnostics = map finding_row findings;
  listing = rows_beside (has_error findings) listing;
  dump = rows_beside (has_error findings) dump;
  is_faulty = has_error findings;
  is_open = is_open;
}

-- what is told of a root
abbrev pub told : Place → List Event → Outcome → Compiled
told end events o =
    rows_of_findings (all_findings end events o) (is_open o.facts)
    (flat_map (entry_row o.facts) o.listed) o.rows

-- the rows of a root that expands to these events, and whose end is this place
unfoldable pub compile : Place → List Event → Compiled
compile end events = told end events (outcome_of events)
