use Rattle.std.proofs.Common.{◌≡◌, length}
use Rattle.idl_entity.specs.Identity.{is_within}
use Rattle.idl_entity.proofs.paths.names.Names.are_within.Given as goal

-- those that are left are within where all are
abbrev pub invariant-loop-names : goal.invariant-loop-names
invariant-loop-names l = is_within l.names l.scope ≡ is_within l.fn.self l.scope

abbrev pub decreases-loop-names : goal.decreases-loop-names
decreases-loop-names l = length l.names
