use Rattle.idl_block.proofs.FactLaws.InsideLaws.{balanced-inside}
use Rattle.idl_block.proofs.facts.known.inside.Goals as goal

pub returns : goal.returns
returns c = balanced-inside
