use Rattle.std.proofs.Common.{◌+◌, length}
use Rattle.idl_changes.specs.Tables.{count_besides}
use Rattle.idl_changes.proofs.AncestorLemmas.{IsWalk}
use Rattle.idl_changes.proofs.offered.ancestors.Given as goal

abbrev pub invariant-loop-next : goal.invariant-loop-next
invariant-loop-next l = IsWalk l.listing l.place l.found.keys l.ahead.items

-- of the places that aren't found yet each is ahead once at most
abbrev pub decreases-loop-next : goal.decreases-loop-next
decreases-loop-next l = length l.ahead.items + count_besides l.listing l.found.keys
