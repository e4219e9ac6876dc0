use Rattle.std.proofs.Common.{arith}
use Rattle.std.proofs.lemmas.Grind.{common_steps}
use Rattle.idl_parts.proofs.interface.push_attribute.Goals as goal

pub returns-in-Plain : goal.returns-in-Plain
returns-in-Plain c = grind (arith, common_steps)

pub returns-in_ok-push-in-Raising : goal.returns-in_ok-push-in-Raising
returns-in_ok-push-in-Raising c = grind (arith, common_steps)
