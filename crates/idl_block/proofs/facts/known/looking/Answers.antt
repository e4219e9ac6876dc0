use Rattle.idl_block.proofs.FactLaws.Seen.LookedLaws.{block-looks}
use Rattle.idl_block.proofs.facts.known.looking.Goals as goal

pub returns : goal.returns
returns g c = λ bank parts k enough. block-looks g.U.FactUnits.unit g.U.FactUnits.writes bank parts enough k
