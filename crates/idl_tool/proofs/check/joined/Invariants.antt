use Rattle.std.proofs.Common.{◌≡◌, ◌++◌, flat_map}
use Rattle.idl_tool.specs.Checked.{entry_text}
use Rattle.idl_tool.proofs.check.joined.Given as goal

-- those before, and those that are left, are all
abbrev pub invariant-reports : goal.invariant-reports
invariant-reports l = l.all.items ++ flat_map entry_text l.report-iterator ≡ flat_map entry_text l.reports.entries
