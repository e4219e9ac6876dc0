use Rattle.idl_block.proofs.FactLaws.BalanceLaws.{balanced-within}
use Rattle.idl_block.proofs.facts.beneath.within.Goals as goal

pub returns : goal.returns
returns c = balanced-within
