use Rattle.std.proofs.Common.{arith}
use Rattle.std.proofs.lemmas.Grind.{common_steps}
use Rattle.idl_memo.proofs.runs.Runs.all.Goals as goal

pub returns-then-is_empty : goal.returns-then-is_empty
returns-then-is_empty g c = grind (arith, common_steps)

pub returns-in-Ok : goal.returns-in-Ok
returns-in-Ok g c = grind (arith, common_steps)

pub returns-then-not-all : goal.returns-then-not-all
returns-then-not-all g c = grind (arith, common_steps)

pub returns-in_ok-append_to-in-Err : goal.returns-in_ok-append_to-in-Err
returns-in_ok-append_to-in-Err g c = grind (arith, common_steps)
