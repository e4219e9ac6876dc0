use Rattle.std.proofs.Common.{arith}
use Rattle.std.proofs.lemmas.Grind.{common_steps}
use Rattle.idl_syntax.proofs.cursor.behind_word.Goals as goal

pub returns-then-is_at_word-clause-reads : goal.returns-then-is_at_word-clause-reads
returns-then-is_at_word-clause-reads c = grind (arith, common_steps)

pub returns-else-is_at_word-clause-reads : goal.returns-else-is_at_word-clause-reads
returns-else-is_at_word-clause-reads c = grind (arith, common_steps)
