use Rattle.std.proofs.Common.{arith}
use Rattle.std.proofs.lemmas.Grind.{common_steps}
use Rattle.idl_store.proofs.store.Store+Held+B+T+W.take_again.Goals as goal

pub returns : goal.returns
returns g c = grind (arith, common_steps)

pub returns-in_err-held-clause-err : goal.returns-in_err-held-clause-err
returns-in_err-held-clause-err g c = grind (arith, common_steps)
