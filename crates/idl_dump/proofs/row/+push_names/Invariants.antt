use Rattle.std.proofs.Common.{length}
use Rattle.idl_dump.proofs.row.+push_names.Given as goal

abbrev pub decreases-push_names : goal.decreases-push_names
decreases-push_names l = length l.names
