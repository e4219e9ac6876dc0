use Rattle.std.proofs.Common.{arith}
use Rattle.std.proofs.lemmas.Grind.{elements}
use Rattle.idl_store.proofs.numbers.number_at.Goals as goal

pub returns : goal.returns
returns c = grind (arith, elements)
