use Rattle.std.proofs.Common.{arith}
use Rattle.std.proofs.lemmas.Grind.{common_steps}
use Rattle.idl_memo.proofs.log_entries.LogEntries.next.Goals as goal

pub parts-init : goal.parts-init
parts-init g c = grind (arith, common_steps)

pub parts-preserved : goal.parts-preserved
parts-preserved g c = grind (arith, common_steps)

pub returns-in-One-clause-first : goal.returns-in-One-clause-first
returns-in-One-clause-first g c = grind (arith, common_steps)

pub returns-in-One-clause-none : goal.returns-in-One-clause-none
returns-in-One-clause-none g c = grind (arith, common_steps)

pub returns-clause-first : goal.returns-clause-first
returns-clause-first g c = grind (arith, common_steps)

pub returns-clause-none : goal.returns-clause-none
returns-clause-none g c = grind (arith, common_steps)
