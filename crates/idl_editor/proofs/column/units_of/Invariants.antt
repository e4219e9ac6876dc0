use Rattle.std.proofs.Common.{◌≡◌, ◌≤◌, ◌+◌, ◌-◌, ◌*◌, length, drop}
use Rattle.bstr.specs.Utf8.{pieces}
use Rattle.idl_editor.specs.Columns.{run_units}
use Rattle.idl_editor.proofs.column.units_of.Given as goal

abbrev pub invariant-pieces : goal.invariant-pieces
invariant-pieces l = record {
  within : l.column ≤ length l.bytes;
  few : l.count ≤ 2 * l.column;
  value : l.count + run_units l.encoding (pieces (drop l.column l.bytes)) ≡ run_units l.encoding (pieces l.fn.bytes);
}

abbrev pub decreases-pieces : goal.decreases-pieces
decreases-pieces l = length l.bytes - l.column
