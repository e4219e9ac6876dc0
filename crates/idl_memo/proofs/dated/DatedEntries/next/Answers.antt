use Rattle.std.proofs.Common.{arith}
use Rattle.std.proofs.lemmas.Grind.{common_steps}
use Rattle.idl_memo.proofs.dated.DatedEntries.next.Goals as goal

pub entries-init : goal.entries-init
entries-init g c = grind (arith, common_steps)

pub returns-then-entry-self-clause-first : goal.returns-then-entry-self-clause-first
returns-then-entry-self-clause-first g c = grind (arith, common_steps)

pub returns-then-entry-self-clause-none : goal.returns-then-entry-self-clause-none
returns-then-entry-self-clause-none g c = grind (arith, common_steps)

pub entries-preserved : goal.entries-preserved
entries-preserved g c = grind (arith, common_steps)

pub returns-clause-first : goal.returns-clause-first
returns-clause-first g c = grind (arith, common_steps)

pub returns-clause-none : goal.returns-clause-none
returns-clause-none g c = grind (arith, common_steps)
