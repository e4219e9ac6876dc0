use Rattle.std.proofs.Common.{arith}
use Rattle.std.proofs.lemmas.Grind.{common_steps}
use Rattle.idl_memo.proofs.run.Run.has.Goals as goal

pub steps-init : goal.steps-init
steps-init g c = grind (arith, common_steps)

pub returns-then-has : goal.returns-then-has
returns-then-has g c = grind (arith, common_steps)

pub steps-preserved : goal.steps-preserved
steps-preserved g c = grind (arith, common_steps)

pub returns : goal.returns
returns g c = grind (arith, common_steps)
