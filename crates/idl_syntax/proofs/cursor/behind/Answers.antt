use Rattle.std.proofs.Common.{arith}
use Rattle.std.proofs.lemmas.Grind.{common_steps}
use Rattle.idl_syntax.proofs.cursor.behind.Goals as goal

pub returns-then-is_at-clause-reads : goal.returns-then-is_at-clause-reads
returns-then-is_at-clause-reads c = grind (arith, common_steps)

pub returns-else-is_at-clause-reads : goal.returns-else-is_at-clause-reads
returns-else-is_at-clause-reads c = grind (arith, common_steps)
