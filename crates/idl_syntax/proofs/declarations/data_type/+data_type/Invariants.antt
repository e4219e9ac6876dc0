use Rattle.std.proofs.Common.{◌+◌, ◌*◌}
use Rattle.idl_syntax.proofs.declarations.data_type.+data_type.Given as goal

abbrev pub decreases-data_type : goal.decreases-data_type
decreases-data_type l = l.depth * 2

abbrev pub decreases-sequence : goal.decreases-sequence
decreases-sequence l = l.depth * 2 + 1
