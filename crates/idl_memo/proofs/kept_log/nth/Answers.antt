use Rattle.std.proofs.Common.{arith}
use Rattle.std.proofs.lemmas.Grind.{common_steps}
use Rattle.idl_memo.proofs.kept_log.nth.Goals as goal

pub entries-init : goal.entries-init
entries-init g c = grind (arith, common_steps)

pub returns-then-before-eq0 : goal.returns-then-before-eq0
returns-then-before-eq0 g c = grind (arith, common_steps)

pub entries-preserved : goal.entries-preserved
entries-preserved g c = grind (arith, common_steps)

pub returns : goal.returns
returns g c = grind (arith, common_steps)
