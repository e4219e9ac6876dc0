use Rattle.std.proofs.Common.{arith}
use Rattle.std.proofs.lemmas.Grind.{common_steps}
use Rattle.idl_parts.proofs.data_type.push_declarator.Goals as goal

pub returns : goal.returns
returns c = grind (arith, common_steps)

pub loop-length-preserved : goal.loop-length-preserved
loop-length-preserved c = grind (arith, common_steps)

pub loop-length-init : goal.loop-length-init
loop-length-init c = grind (arith, common_steps)
