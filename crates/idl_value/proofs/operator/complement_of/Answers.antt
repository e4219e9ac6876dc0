use Rattle.std.proofs.Common.{arith}
use Rattle.std.proofs.lemmas.Grind.{common_steps}
use Rattle.idl_value.proofs.operator.complement_of.Goals as goal

pub returns-then-is_signed : goal.returns-then-is_signed
returns-then-is_signed c = grind (arith, common_steps)

pub returns-else-is_signed : goal.returns-else-is_signed
returns-else-is_signed c = grind (arith, common_steps)
