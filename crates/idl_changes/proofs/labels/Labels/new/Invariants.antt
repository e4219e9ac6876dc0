use Rattle.std.proofs.Common.{take}
use Rattle.idl_changes.specs.Tables.{AreLabelled}
use Rattle.idl_changes.proofs.labels.Labels.new.Given as goal

-- those so far
abbrev pub invariant-loop-place : goal.invariant-loop-place
invariant-loop-place l = AreLabelled l.names (take l.place l.cases) l.places
