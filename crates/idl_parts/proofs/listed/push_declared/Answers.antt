use Rattle.std.proofs.Common.{arith}
use Rattle.std.proofs.lemmas.Grind.{common_steps}
use Rattle.idl_parts.proofs.listed.push_declared.Goals as goal

pub returns : goal.returns
returns c = grind (arith, common_steps)

pub loop-name-init : goal.loop-name-init
loop-name-init c = grind (arith, common_steps)

pub loop-name-preserved : goal.loop-name-preserved
loop-name-preserved c = grind (arith, common_steps)
