use Rattle.idl_value.proofs.DecisionLemmas.{bound-open, value-open}
use Rattle.idl_value.proofs.laws.deciding.Goals as goal

pub returns-clause-value : goal.returns-clause-value
returns-clause-value c = value-open

pub returns-clause-bound : goal.returns-clause-bound
returns-clause-bound c = bound-open
