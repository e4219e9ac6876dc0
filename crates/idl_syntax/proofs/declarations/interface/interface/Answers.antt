use Rattle.std.proofs.Common.{arith}
use Rattle.std.proofs.lemmas.Grind.{common_steps}
use Rattle.idl_tree.specs.reading.ReadUnit.{interface_at}
use Rattle.idl_syntax.proofs.declarations.interface.interface.Goals as goal

pub returns-clause-reads : goal.returns-clause-reads
unfolding interface_at
returns-clause-reads c = grind (arith, common_steps)

pub returns-in_err-rest-clause-reads : goal.returns-in_err-rest-clause-reads
unfolding interface_at
returns-in_err-rest-clause-reads c = grind (arith, common_steps)

pub returns-in_err-name-clause-reads : goal.returns-in_err-name-clause-reads
unfolding interface_at
returns-in_err-name-clause-reads c = grind (arith, common_steps)
