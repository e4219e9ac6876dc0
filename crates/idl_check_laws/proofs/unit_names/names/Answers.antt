use Rattle.idl_check_laws.proofs.Visits.FirstLaws.{unit-first}
use Rattle.idl_check_laws.proofs.Visits.NameLaws.{unit-before, unit-used}
use Rattle.idl_check_laws.proofs.unit_names.names.Goals as goal

pub returns-clause-index : goal.returns-clause-index
returns-clause-index c = λ turns tokens answers. unit-before turns answers tokens

pub returns-clause-used : goal.returns-clause-used
returns-clause-used c = λ turns tokens answers. unit-used turns answers tokens

pub returns-clause-first : goal.returns-clause-first
returns-clause-first c = λ turns text answers path prefix. unit-first turns answers path prefix text
