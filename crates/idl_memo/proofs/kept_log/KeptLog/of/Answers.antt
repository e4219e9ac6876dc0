use Rattle.std.proofs.Common.{arith}
use Rattle.std.proofs.lemmas.Grind.{common_steps}
use Rattle.idl_memo.proofs.kept_log.KeptLog.of.Goals as goal

pub returns-then-len-le-FEW : goal.returns-then-len-le-FEW
returns-then-len-le-FEW g c = grind (arith, common_steps)

pub invariant_of-new : goal.invariant_of-new
invariant_of-new g c = grind (arith, common_steps)

pub returns : goal.returns
returns g c = grind (arith, common_steps)
