use Rattle.std.proofs.Common.{arith}
use Rattle.std.proofs.lemmas.Grind.{common_steps}
use Rattle.idl_parts.proofs.data_type.push_constant_type.Goals as goal

pub returns-in-Name : goal.returns-in-Name
returns-in-Name c = grind (arith, common_steps)

pub returns-in-Discrete : goal.returns-in-Discrete
returns-in-Discrete c = grind (arith, common_steps)
