use Rattle.std.proofs.Common.{◌≡◌, map, take}
use Rattle.idl_finding.specs.Findings.{finding_row}
use Rattle.idl_finding.proofs.finding.rows_of.Given as goal

abbrev pub invariant-loop-finding : goal.invariant-loop-finding
invariant-loop-finding l = l.rows.items ≡ map finding_row (take l.finding-index l.findings)
