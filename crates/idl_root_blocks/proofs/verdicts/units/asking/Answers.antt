use Rattle.idl_root_blocks.proofs.VerdictLaws.Asks.{unit-asks}
use Rattle.idl_root_blocks.proofs.verdicts.units.asking.Goals as goal

pub returns : goal.returns
returns c = unit-asks
