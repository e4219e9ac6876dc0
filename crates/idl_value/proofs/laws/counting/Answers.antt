use Rattle.idl_value.proofs.OrderLemmas.{value-tokens}
use Rattle.idl_value.proofs.laws.counting.Goals as goal

pub returns : goal.returns
returns c = value-tokens
