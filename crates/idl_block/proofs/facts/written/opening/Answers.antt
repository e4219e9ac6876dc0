use Rattle.idl_block.proofs.FactLaws.OpenLaws.{facts-open}
use Rattle.idl_block.proofs.facts.written.opening.Goals as goal

pub returns : goal.returns
returns c = facts-open
