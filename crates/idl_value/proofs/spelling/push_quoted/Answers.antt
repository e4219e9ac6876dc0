use Rattle.std.proofs.Common.{arith}
use Rattle.std.proofs.lemmas.Grind.{common_steps}
use Rattle.idl_value.proofs.spelling.push_quoted.Goals as goal

pub returns : goal.returns
returns c = grind (arith, common_steps)

pub loop-character-preserved : goal.loop-character-preserved
loop-character-preserved c = grind (arith, common_steps)

pub loop-character-init : goal.loop-character-init
loop-character-init c = grind (arith, common_steps)
