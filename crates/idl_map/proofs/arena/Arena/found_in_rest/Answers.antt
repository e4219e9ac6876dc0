use Rattle.std.proofs.Common.{arith}
use Rattle.std.proofs.lemmas.Grind.{common_steps}
use Rattle.idl_map.proofs.arena.Arena.found_in_rest.Goals as goal

pub loop-other-init : goal.loop-other-init
loop-other-init g c = grind (arith, common_steps)

pub loop-other-preserved : goal.loop-other-preserved
loop-other-preserved g c = grind (arith, common_steps)

pub returns-then-is : goal.returns-then-is
returns-then-is g c = grind (arith, common_steps)

pub returns : goal.returns
returns g c = grind (arith, common_steps)
