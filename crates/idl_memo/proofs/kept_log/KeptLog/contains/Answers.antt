use Rattle.std.proofs.Common.{arith}
use Rattle.std.proofs.lemmas.Grind.{common_steps}
use Rattle.idl_memo.proofs.kept_log.KeptLog.contains.Goals as goal

pub parts-init : goal.parts-init
parts-init g c = grind (arith, common_steps)

pub returns-then-has : goal.returns-then-has
returns-then-has g c = grind (arith, common_steps)

pub parts-preserved : goal.parts-preserved
parts-preserved g c = grind (arith, common_steps)

pub returns : goal.returns
returns g c = grind (arith, common_steps)
