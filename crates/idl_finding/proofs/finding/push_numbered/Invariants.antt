use Rattle.std.proofs.Common.{◌≡◌, ◌++◌, map, take}
use Rattle.idl_finding.specs.Findings.{numbered}
use Rattle.idl_finding.proofs.finding.push_numbered.Given as goal

abbrev pub invariant-loop-finding : goal.invariant-loop-finding
invariant-loop-finding l = l.findings.items ≡ l.fn.findings.items ++ map (numbered l.expansion) (take l.finding-index l.found)
