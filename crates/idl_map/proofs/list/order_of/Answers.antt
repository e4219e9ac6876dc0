use Rattle.std.proofs.Common.{arith}
use Rattle.std.proofs.lemmas.Grind.{common_steps}
use Rattle.idl_map.proofs.list.order_of.Goals as goal

pub loop-one-init : goal.loop-one-init
loop-one-init g c = grind (arith, common_steps)

pub loop-one-preserved : goal.loop-one-preserved
loop-one-preserved g c = grind (arith, common_steps)

pub returns : goal.returns
returns g c = grind (arith, common_steps)

pub returns-in_default-two : goal.returns-in_default-two
returns-in_default-two g c = grind (arith, common_steps)

pub returns-in_default-two-2 : goal.returns-in_default-two-2
returns-in_default-two-2 g c = grind (arith, common_steps)

pub returns-then-ne : goal.returns-then-ne
returns-then-ne g c = grind (arith, common_steps)
