use Rattle.std.proofs.Common.{arith}
use Rattle.std.proofs.lemmas.Grind.{common_steps}
use Rattle.idl_value.proofs.constant.joined.Goals as goal

pub returns : goal.returns
returns c = grind (arith, common_steps)

pub loop-piece-init : goal.loop-piece-init
loop-piece-init c = grind (arith, common_steps)

pub loop-piece-preserved : goal.loop-piece-preserved
loop-piece-preserved c = grind (arith, common_steps)
