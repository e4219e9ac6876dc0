use Rattle.idl_check_laws.proofs.Nests.Operands.{expression-names}
use Rattle.idl_check_laws.proofs.Visits.ValuedLaws.{constant-valued, unit-values}
use Rattle.idl_check_laws.proofs.laws.evaluating.Goals as goal

pub returns-clause-values : goal.returns-clause-values
returns-clause-values c = unit-values

pub returns-clause-constant : goal.returns-clause-constant
returns-clause-constant c = constant-valued

pub returns-clause-names : goal.returns-clause-names
returns-clause-names c = expression-names
