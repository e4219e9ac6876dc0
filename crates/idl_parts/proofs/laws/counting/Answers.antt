use Rattle.idl_parts.proofs.UnitSpelling.{counted, numbered}
use Rattle.idl_parts.proofs.laws.counting.Goals as goal

pub returns : goal.returns
returns c = record { counted = counted; numbered = numbered }
