use Rattle.idl_block.proofs.FactLaws.Seen.KnownLaws.{known-block}
use Rattle.idl_block.proofs.FactLaws.WalkLaws.{over-block}
use Rattle.idl_block.proofs.facts.known.knowing.Goals as goal

pub returns-clause-known : goal.returns-clause-known
returns-clause-known g c = known-block g.U.FactUnits.unit g.U.FactUnits.writes

pub returns-clause-over : goal.returns-clause-over
returns-clause-over g c = over-block g.U.FactUnits.unit g.U.FactUnits.writes
