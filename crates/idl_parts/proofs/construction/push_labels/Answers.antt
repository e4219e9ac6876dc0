use Rattle.std.proofs.Common.{arith}
use Rattle.std.proofs.lemmas.Grind.{common_steps}
use Rattle.idl_parts.proofs.construction.push_labels.Goals as goal

pub returns : goal.returns
returns c = grind (arith, common_steps)

pub loop-label-preserved : goal.loop-label-preserved
loop-label-preserved c = grind (arith, common_steps)
