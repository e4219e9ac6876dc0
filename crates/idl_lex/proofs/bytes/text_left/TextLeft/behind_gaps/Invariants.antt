use Rattle.std.proofs.Common.{◌≡◌, length}
use Rattle.idl_lex.specs.bytes.Columns.{behind_gaps}
use Rattle.idl_lex.proofs.bytes.text_left.TextLeft.behind_gaps.Given as goal

abbrev pub invariant-gaps : goal.invariant-gaps
invariant-gaps l = behind_gaps l.left ≡ behind_gaps l.fn.self

abbrev pub decreases-gaps : goal.decreases-gaps
decreases-gaps l = length l.left
