use Rattle.std.proofs.Common.{◌≡◌, ◌≤◌, ◌-◌, ◌++◌, drop, length}
use Rattle.idl_tool.specs.Report.{shown_text}
use Rattle.idl_tool.proofs.report.shown_text.Given as goal

-- what is shown, and what is left to be
abbrev pub invariant-pieces : goal.invariant-pieces
invariant-pieces l = record {
  within : l.at ≤ length l.text;
  shown : l.shown.items ++ shown_text l.is_line (drop l.at l.text) ≡ shown_text l.is_line l.text;
}

abbrev pub decreases-pieces : goal.decreases-pieces
decreases-pieces l = length l.text - l.at
