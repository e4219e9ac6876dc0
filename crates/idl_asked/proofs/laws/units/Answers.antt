use Rattle.idl_asked.proofs.UnitAsks.{unit-asked}
use Rattle.idl_asked.proofs.laws.units.Goals as goal

pub returns : goal.returns
returns c = unit-asked
