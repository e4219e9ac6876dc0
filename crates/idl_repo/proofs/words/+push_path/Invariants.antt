use Rattle.std.proofs.Common.{length}
use Rattle.idl_repo.proofs.words.+push_path.Given as goal

abbrev pub decreases-push_path : goal.decreases-push_path
decreases-push_path l = length l.names
