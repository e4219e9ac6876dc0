use Rattle.std.proofs.Common.{◌≡◌, ◌≤◌, ◌+◌, ◌-◌, length, drop}
use Rattle.idl_editor.specs.Positions.{line_start}
use Rattle.idl_editor.proofs.position.line_start.Given as goal

abbrev pub invariant-lines : goal.invariant-lines
invariant-lines l = record {
  within : l.start ≤ length l.text;
  value : l.start + line_start (l.line - l.done) (drop l.start l.text) ≡ line_start l.fn.line l.fn.text;
}
