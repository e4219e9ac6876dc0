use Rattle.std.proofs.Common.{◌∙◌, ap, sym}
use Rattle.idl_tool.specs.Checked.{report_in, seconds_in, with_entry}
use Rattle.idl_tool.specs.ToldAt.{told_at}
use Rattle.idl_tool.proofs.CheckLemmas.{entry-new, entry-there, reported-at}
use Rattle.idl_tool.proofs.check.add_reports.Goals as goal

pub findings-preserved-then-contains_key : goal.findings-preserved-then-contains_key
findings-preserved-then-contains_key c =
    let files = c.args.columns.now in
    let is = c.findings.invariant.files in
    let made = c.in_ok-report.ensures.report in
    let report = c.in_ok-report.report in
    let reports = c.findings.reports.entries in
    let tells = made.2 ∙ ap (λ fs. report_in fs (told_at c.one-item.result, made.0)) is in
    let there = entry-there reports report (seconds_in files c.one-item.result.related.now) (sym c.contains_key.ensures ∙ c.if-contains_key.true) in
    record {
      files = c.in_ok-report.ensures.same ∙ is;
      reported =
          reported-at told_at files c.args.told.now c.findings.one-index c.one-item.result made.0 report c.args.reports.now.entries reports reports c.findings-test.true c.findings.invariant.reported
          made.1 c.one-item.is tells (sym there);
    }

pub findings-preserved : goal.findings-preserved
findings-preserved c =
    let files = c.args.columns.now in
    let is = c.findings.invariant.files in
    let made = c.in_ok-report.ensures.report in
    let report = c.in_ok-report.report in
    let reports = c.findings.reports.entries in
    let tells = made.2 ∙ ap (λ fs. report_in fs (told_at c.one-item.result, made.0)) is in
    let seconds = c.in_ok-behind.ensures.seconds ∙ ap (λ fs. seconds_in fs c.one-item.result.related.now) (c.in_ok-report.ensures.same ∙ is) in
    let added = c.in_ok-insert.ensures.entries ∙ entry-new reports report c.in_ok-behind.behind (sym c.contains_key.ensures ∙ c.if-contains_key.false) in
    record {
      files = c.in_ok-behind.ensures.same ∙ c.in_ok-report.ensures.same ∙ is;
      reported =
          reported-at told_at files c.args.told.now c.findings.one-index c.one-item.result made.0 report c.args.reports.now.entries reports c.insert.new.self.entries c.findings-test.true
          c.findings.invariant.reported made.1 c.one-item.is tells (added ∙ ap (λ behind. with_entry reports (report, behind)) seconds);
    }
