use Rattle.std.proofs.Common.{arith}
use Rattle.std.proofs.lemmas.Grind.{common_steps}
use Rattle.idl_parts.proofs.unit.push_exception.Goals as goal

pub returns : goal.returns
returns c = grind (arith, common_steps)

pub loop-member-init : goal.loop-member-init
loop-member-init c = grind (arith, common_steps)

pub loop-member-preserved : goal.loop-member-preserved
loop-member-preserved c = grind (arith, common_steps)
