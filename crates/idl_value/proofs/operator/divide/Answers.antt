use Rattle.std.proofs.Common.{arith}
use Rattle.std.proofs.lemmas.Grind.{common_steps}
use Rattle.idl_value.proofs.operator.divide.Goals as goal

pub returns-then-d-eq0 : goal.returns-then-d-eq0
returns-then-d-eq0 c = grind (arith, common_steps)
