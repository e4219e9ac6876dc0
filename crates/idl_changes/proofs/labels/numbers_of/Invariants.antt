use Rattle.std.proofs.Common.{take}
use Rattle.idl_changes.specs.Numbered.{AreNumbered}
use Rattle.idl_changes.proofs.labels.numbers_of.Given as goal

-- those so far
abbrev pub invariant-loop-place : goal.invariant-loop-place
invariant-loop-place l = AreNumbered (take l.place l.names) l.numbers
