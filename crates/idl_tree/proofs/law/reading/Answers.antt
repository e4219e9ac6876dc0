use Rattle.idl_tree.proofs.ReadAgain.UnitAgain.{unit_again}
use Rattle.idl_tree.proofs.UnitWhole.{unit_found, unit_fault, unit_rest}
use Rattle.idl_tree.proofs.law.reading.Goals as goal

pub returns-clause-again : goal.returns-clause-again
returns-clause-again c = unit_again

pub returns-clause-found : goal.returns-clause-found
returns-clause-found c = unit_found

pub returns-clause-fault : goal.returns-clause-fault
returns-clause-fault c = unit_fault

pub returns-clause-rest : goal.returns-clause-rest
returns-clause-rest c = unit_rest
