use Rattle.std.proofs.Common.{arith}
use Rattle.std.proofs.lemmas.Grind.{common_steps}
use Rattle.idl_tree.specs.reading.ReadInterface.{parameter_with}
use Rattle.idl_syntax.proofs.declarations.operation.ParameterProductionProduction.read.Goals as goal

pub returns-clause-reads : goal.returns-clause-reads
unfolding parameter_with
returns-clause-reads c = grind (arith, common_steps)

pub returns-in_default-clause-reads : goal.returns-in_default-clause-reads
unfolding parameter_with
returns-in_default-clause-reads c = grind (arith, common_steps)

pub returns-in_err-kind-clause-reads : goal.returns-in_err-kind-clause-reads
unfolding parameter_with
returns-in_err-kind-clause-reads c = grind (arith, common_steps)

pub returns-in_err-name-clause-reads : goal.returns-in_err-name-clause-reads
unfolding parameter_with
returns-in_err-name-clause-reads c = grind (arith, common_steps)
