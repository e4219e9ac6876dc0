use Rattle.idl_parts.proofs.UnitSpelling.{unit_spells}
use Rattle.idl_parts.proofs.laws.spelling.Goals as goal

pub returns : goal.returns
returns c = unit_spells
