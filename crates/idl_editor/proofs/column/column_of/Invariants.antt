use Rattle.std.proofs.Common.{◌≡◌, ◌≤◌, ◌+◌, ◌-◌, length, drop}
use Rattle.bstr.specs.Utf8.{pieces}
use Rattle.idl_editor.specs.Columns.{run_size}
use Rattle.idl_editor.proofs.column.column_of.Given as goal

abbrev pub invariant-pieces : goal.invariant-pieces
invariant-pieces l = record {
  within : l.column ≤ length l.line;
  value : l.column + run_size l.encoding l.left (pieces (drop l.column l.line)) ≡ run_size l.encoding l.fn.count (pieces l.fn.line);
}

abbrev pub decreases-pieces : goal.decreases-pieces
decreases-pieces l = length l.line - l.column
