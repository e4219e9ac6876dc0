use Rattle.std.proofs.Common.{arith}
use Rattle.std.proofs.lemmas.Grind.{common_steps, elements}
use Rattle.idl_event.proofs.told.sites.stretch_of.Goals as goal

pub returns : goal.returns
returns c = grind (arith, elements)

pub returns-in_default : goal.returns-in_default
returns-in_default c = grind (arith, common_steps)

pub returns-then-is_last : goal.returns-then-is_last
returns-then-is_last c = grind (arith, common_steps)

pub returns-in_default-try_from : goal.returns-in_default-try_from
returns-in_default-try_from c = grind (arith, common_steps)
