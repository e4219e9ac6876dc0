use Rattle.std.proofs.Common.{length}
use Rattle.idl_entity.specs.Path.{path_of}
use Rattle.idl_entity.proofs.paths.path.Path.ending_in.Given as goal

abbrev pub decreases-names : goal.decreases-names
decreases-names l = length (path_of l.link)
