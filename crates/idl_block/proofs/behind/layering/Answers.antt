use Rattle.idl_block.proofs.BehindLaws.{outcome-behind, asked-behind}
use Rattle.idl_block.proofs.behind.layering.Goals as goal

pub returns-clause-outcome : goal.returns-clause-outcome
returns-clause-outcome g c = outcome-behind

pub returns-clause-asked : goal.returns-clause-asked
returns-clause-asked g c = asked-behind
