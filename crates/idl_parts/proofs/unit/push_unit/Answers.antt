use Rattle.std.proofs.Common.{arith}
use Rattle.std.proofs.lemmas.Grind.{common_steps}
use Rattle.idl_parts.specs.UnitParts.{unit_parts}
use Rattle.idl_parts.proofs.unit.push_unit.Goals as goal

pub returns : goal.returns
unfolding unit_parts
returns c = grind (arith, common_steps)

pub returns-in-Closing : goal.returns-in-Closing
unfolding unit_parts
returns-in-Closing c = grind (arith, common_steps)
