use Rattle.std.proofs.lemmas.Result.{IfOk-weaker}
use Rattle.idl_tool.proofs.check.report_text.Goals as goal

pub returns : goal.returns
returns c =
    let reports = c.in_ok-reports.ensures in
    IfOk-weaker c.joined.result _ _ (λ text joins. (reports.0, reports.1, c.in_ok-reports.reports.entries, reports.2, joins)) c.joined.ensures
