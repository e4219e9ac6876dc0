use Rattle.std.proofs.Common.{length}
use Rattle.idl_prep.proofs.walk.explorer.FileWalk.walk_lines.Given as goal

abbrev pub decreases-lines : goal.decreases-lines
decreases-lines g l = length l.self.left
