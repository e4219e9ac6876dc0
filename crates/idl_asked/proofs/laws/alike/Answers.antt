use Rattle.idl_asked.proofs.AlikeLaws.{entry-alike, unit-alike}
use Rattle.idl_asked.proofs.laws.alike.Goals as goal

pub returns-clause-units : goal.returns-clause-units
returns-clause-units c = unit-alike

pub returns-clause-entries : goal.returns-clause-entries
returns-clause-entries c = entry-alike
