use Rattle.std.proofs.Common.{arith}
use Rattle.std.proofs.lemmas.Grind.{common_steps}
use Rattle.idl_memo.proofs.steps.Behind.split_first.Goals as goal

pub returns-in_ok-first-in-Block : goal.returns-in_ok-first-in-Block
returns-in_ok-first-in-Block g c = grind (arith, common_steps)

pub returns-in_ok-first-in-Links : goal.returns-in_ok-first-in-Links
returns-in_ok-first-in-Links g c = grind (arith, common_steps)
