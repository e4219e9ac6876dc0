use Rattle.std.proofs.Common.{arith}
use Rattle.std.proofs.lemmas.Grind.{common_steps}
use Rattle.idl_tree.specs.reading.ReadType.{type_at, type_with}
use Rattle.idl_syntax.proofs.declarations.data_type.+data_type.Goals as goal

pub data_type-returns-then-depth-eq0-clause-reads : goal.data_type-returns-then-depth-eq0-clause-reads
unfolding type_at type_with
data_type-returns-then-depth-eq0-clause-reads t c = grind (arith, common_steps)
