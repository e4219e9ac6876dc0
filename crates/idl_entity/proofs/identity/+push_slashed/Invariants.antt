use Rattle.std.proofs.Common.{length}
use Rattle.idl_entity.proofs.identity.+push_slashed.Given as goal

abbrev pub decreases-push_slashed : goal.decreases-push_slashed
decreases-push_slashed l = length l.path
