use Rattle.std.proofs.Common.{◌≡◌, ◌<◌, ℕ, false, get_or}
use Rattle.idl_editor.specs.Positions.{is_break}
use Rattle.idl_editor.proofs.position.line_size.Given as goal

abbrev pub invariant-loop-size : goal.invariant-loop-size
invariant-loop-size l = (k : ℕ) → k < l.size → is_break (get_or l.text k 0) ≡ false
