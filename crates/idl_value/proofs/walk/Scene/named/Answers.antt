use Rattle.std.proofs.Common.{arith}
use Rattle.std.proofs.lemmas.Grind.{elements}
use Rattle.idl_value.proofs.walk.Scene.named.Goals as goal

pub returns : goal.returns
returns c = grind (arith, elements)
