use Rattle.std.proofs.Common.{◌≡◌, map, take}
use Rattle.idl_changes.specs.Matched.{matches}
use Rattle.idl_changes.proofs.matched.matches.Given as goal

-- those so far
abbrev pub invariant-loop-place : goal.invariant-loop-place
invariant-loop-place g l =
    l.found.items ≡ take l.place (matches (map g.T.Named.name_of l.old) (map g.T.Named.name_of l.new))
