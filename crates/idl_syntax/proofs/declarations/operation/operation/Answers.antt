use Rattle.std.proofs.Common.{arith}
use Rattle.std.proofs.lemmas.Grind.{common_steps}
use Rattle.idl_tree.specs.reading.ReadInterface.{operation_with}
use Rattle.idl_syntax.proofs.declarations.operation.operation.Goals as goal

pub returns-clause-reads : goal.returns-clause-reads
unfolding operation_with
returns-clause-reads c = grind (arith, common_steps)

pub returns-in_err-name-clause-reads : goal.returns-in_err-name-clause-reads
unfolding operation_with
returns-in_err-name-clause-reads c = grind (arith, common_steps)

pub returns-in_err-result-clause-reads : goal.returns-in_err-result-clause-reads
unfolding operation_with
returns-in_err-result-clause-reads c = grind (arith, common_steps)
