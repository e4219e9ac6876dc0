use Rattle.std.proofs.Common.{◌≡◌, flat_map, take}
use Rattle.idl_finding.specs.Findings.{event_finding}
use Rattle.idl_finding.proofs.finding.event_findings.Given as goal

abbrev pub invariant-loop-number : goal.invariant-loop-number
invariant-loop-number l = l.findings.items ≡ flat_map event_finding (take l.number-index l.others)
