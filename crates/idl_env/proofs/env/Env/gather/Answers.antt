use Rattle.std.proofs.Common.{arith}
use Rattle.std.proofs.lemmas.Grind.{common_steps}
use Rattle.idl_env.proofs.env.Env.gather.Goals as goal

pub returns : goal.returns
returns c = grind (arith, common_steps)

pub returns-in_default : goal.returns-in_default
returns-in_default c = grind (arith, common_steps)

pub returns-in_default-entity_in : goal.returns-in_default-entity_in
returns-in_default-entity_in c = grind (arith, common_steps)

pub returns-then-not-is_interface : goal.returns-then-not-is_interface
returns-then-not-is_interface c = grind (arith, common_steps)
