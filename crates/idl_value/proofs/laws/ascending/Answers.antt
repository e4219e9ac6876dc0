use Rattle.idl_value.proofs.OrderLemmas.{value-ascends}
use Rattle.idl_value.proofs.laws.ascending.Goals as goal

pub returns : goal.returns
returns c = value-ascends
