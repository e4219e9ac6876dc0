use Rattle.std.proofs.Common.{arith}
use Rattle.std.proofs.lemmas.Grind.{common_steps}
use Rattle.idl_memo.proofs.dated.PagedEntries.next.Goals as goal

pub pages-init : goal.pages-init
pages-init g c = grind (arith, common_steps)

pub returns-in-Some-clause-first : goal.returns-in-Some-clause-first
returns-in-Some-clause-first g c = grind (arith, common_steps)

pub returns-in-Some-clause-none : goal.returns-in-Some-clause-none
returns-in-Some-clause-none g c = grind (arith, common_steps)

pub returns-in_err-page-clause-first : goal.returns-in_err-page-clause-first
returns-in_err-page-clause-first g c = grind (arith, common_steps)

pub returns-in_err-page-clause-none : goal.returns-in_err-page-clause-none
returns-in_err-page-clause-none g c = grind (arith, common_steps)

pub pages-preserved : goal.pages-preserved
pages-preserved g c = grind (arith, common_steps)
