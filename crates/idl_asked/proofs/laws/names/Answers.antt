use Rattle.idl_asked.proofs.FactLaws.{name-asked, scope-asked, through-asked}
use Rattle.idl_asked.proofs.laws.names.Goals as goal

pub returns-clause-through : goal.returns-clause-through
returns-clause-through c = through-asked

pub returns-clause-scope : goal.returns-clause-scope
returns-clause-scope c = scope-asked

pub returns-clause-name : goal.returns-clause-name
returns-clause-name c = name-asked
