-- What is found in a unit.
use Rattle.std.specs.Prelude.{List}
use Rattle.idl_finding.specs.Findings.{fault_finding}
use Rattle.idl_finding.specs.declared.finding.EventFinding.{EventFinding}
use Rattle.idl_root.specs.Judged.{Judged}

-- its fault, at the token with that number
abbrev pub unit_finding : Judged → List EventFinding
unit_finding j = fault_finding j.text j.sites j.verdict.fault
