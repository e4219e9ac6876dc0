use Rattle.std.proofs.Common.{arith}
use Rattle.std.proofs.lemmas.Grind.{common_steps}
use Rattle.idl_event.proofs.told.runs.push_clones.Goals as goal

pub returns : goal.returns
returns c = grind (arith, common_steps)

pub returns-in-Err : goal.returns-in-Err
returns-in-Err c = grind (arith, common_steps)

pub returns-in_err-reserve-clause-err : goal.returns-in_err-reserve-clause-err
returns-in_err-reserve-clause-err c = grind (arith, common_steps)

pub tokens-preserved : goal.tokens-preserved
tokens-preserved c = grind (arith, common_steps)

pub tokens-init : goal.tokens-init
tokens-init c = grind (arith, common_steps)
