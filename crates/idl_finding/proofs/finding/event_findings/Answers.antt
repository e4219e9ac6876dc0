use Rattle.std.proofs.Common.{◌∙◌, ap, flat_map}
use Rattle.std.specs.List.{enumerate_from}
use Rattle.std.proofs.lemmas.List.{take_all}
use Rattle.idl_finding.specs.Findings.{event_finding}
use Rattle.idl_finding.proofs.FindingLemmas.{flat_map-others_in}
use Rattle.idl_finding.proofs.finding.event_findings.Goals as goal

pub returns : goal.returns
returns c =
    c.loop-number.invariant
    ∙ ap (flat_map event_finding) (take_all c.loop-number.number-index c.others-others.result.now c.loop-number-test.false ∙ c.others-others.ensures)
    ∙ flat_map-others_in (enumerate_from 0 c.args.expansion.now)
