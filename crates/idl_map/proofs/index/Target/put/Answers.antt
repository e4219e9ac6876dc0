use Rattle.std.proofs.Common.{arith}
use Rattle.std.proofs.lemmas.Grind.{elements}
use Rattle.idl_map.proofs.index.Target.put.Goals as goal

pub returns-in-None : goal.returns-in-None
returns-in-None c = grind (arith, elements)

pub returns-then-digest-self : goal.returns-then-digest-self
returns-then-digest-self c = grind (arith, elements)

pub returns-else-digest-self : goal.returns-else-digest-self
returns-else-digest-self c = grind (arith, elements)
