use Rattle.std.proofs.Common.{◌≡◌, map, take}
use Rattle.idl_tool.specs.Checked.{AreReported}
use Rattle.idl_tool.specs.ToldAt.{told_at}
use Rattle.idl_tool.proofs.check.add_reports.Given as goal

-- those of the findings before
abbrev pub invariant-findings : goal.invariant-findings
invariant-findings l = record {
  files : l.columns ≡ l.fn.columns;
  reported : AreReported l.fn.columns (map told_at (take l.one-index l.told)) l.fn.reports.entries l.reports.entries;
}
