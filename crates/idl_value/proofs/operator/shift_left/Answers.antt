use Rattle.std.proofs.Common.{arith}
use Rattle.std.proofs.lemmas.Grind.{common_steps}
use Rattle.idl_value.proofs.operator.shift_left.Goals as goal

pub returns : goal.returns
returns c = grind (arith, common_steps)

pub returns-then-count-lt0 : goal.returns-then-count-lt0
returns-then-count-lt0 c = grind (arith, common_steps)
