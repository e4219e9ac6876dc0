use Rattle.std.proofs.Common.{map, take}
use Rattle.idl_changes.specs.Tables.{AreFirst}
use Rattle.idl_changes.proofs.matched.first_places.Given as goal

-- those so far
abbrev pub invariant-loop-place : goal.invariant-loop-place
invariant-loop-place g l = AreFirst (map g.T.Named.name_of (take l.place l.items)) l.places
