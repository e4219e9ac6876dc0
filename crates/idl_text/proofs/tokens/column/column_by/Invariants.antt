use Rattle.std.proofs.Common.{◌≡◌, ◌≤◌, ◌-◌, length}
use Rattle.std.specs.List.{slice_get}
use Rattle.idl_text.specs.Starts.{on_line, starts_left}
use Rattle.idl_text.proofs.tokens.column.column_by.Given as goal

abbrev pub invariant-starts : goal.invariant-starts
invariant-starts l = record {
  within : l.count ≤ l.number;
  same : slice_get (on_line l.line (starts_left l.left)) (l.number - l.count) ≡ slice_get (on_line l.line (starts_left l.starts)) l.number;
}

abbrev pub decreases-starts : goal.decreases-starts
decreases-starts l = length (starts_left l.left)
