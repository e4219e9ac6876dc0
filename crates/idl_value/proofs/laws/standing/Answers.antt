use Rattle.idl_value.proofs.StandingLemmas.{value-stands}
use Rattle.idl_value.proofs.laws.standing.Goals as goal

pub returns : goal.returns
returns c = value-stands
