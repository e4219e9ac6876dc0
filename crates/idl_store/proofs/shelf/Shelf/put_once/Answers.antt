-- Where none is there that it is, its gap is found.
use Rattle.std.proofs.lemmas.Result.{IfErr-at_err, IfOk-at_ok}
use Rattle.std.proofs.Common.{arith}
use Rattle.std.proofs.lemmas.Grind.{common_steps}
use Rattle.idl_store.proofs.shelf.Shelf.put_once.Goals as goal

pub put-requires-clause-gap : goal.put-requires-clause-gap
put-requires-clause-gap g c = IfErr-at_err _ c.in-Err.is (IfOk-at_ok _ c.in_ok-found.was (c.take.ensures.gap c.args.kept c.requires.sought))

pub returns-in_ok-put : goal.returns-in_ok-put
returns-in_ok-put g c = grind (arith, common_steps)

pub returns-in_default : goal.returns-in_default
returns-in_default g c = grind (arith, common_steps)

pub returns-in_err-put-clause-err : goal.returns-in_err-put-clause-err
returns-in_err-put-clause-err g c = grind (arith, common_steps)

pub returns-in_err-found-clause-err : goal.returns-in_err-found-clause-err
returns-in_err-found-clause-err g c = grind (arith, common_steps)
