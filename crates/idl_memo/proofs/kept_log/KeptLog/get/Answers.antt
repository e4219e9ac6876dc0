use Rattle.std.proofs.Common.{arith}
use Rattle.std.proofs.lemmas.Grind.{common_steps}
use Rattle.idl_memo.proofs.kept_log.KeptLog.get.Goals as goal

pub returns-in-Plain : goal.returns-in-Plain
returns-in-Plain g c = grind (arith, common_steps)

pub returns-in-Digested : goal.returns-in-Digested
returns-in-Digested g c = grind (arith, common_steps)

pub returns-in_default : goal.returns-in_default
returns-in_default g c = grind (arith, common_steps)
