use Rattle.std.proofs.Common.{◌≡◌, ◌++◌}
use Rattle.idl_source.specs.texts.Cut.{cut_lines}
use Rattle.idl_source.proofs.texts.cutting.cut.Given as goal

abbrev pub invariant-loop-line : goal.invariant-loop-line
invariant-loop-line l = l.lines ++ l.line-iterator ≡ cut_lines l.fn.bytes
