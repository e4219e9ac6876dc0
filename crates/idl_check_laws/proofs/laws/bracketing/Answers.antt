use Rattle.idl_check_laws.proofs.Nests.UnitNesting.{unit-whole}
use Rattle.idl_check_laws.proofs.laws.bracketing.Goals as goal

pub returns : goal.returns
returns c = λ tree. (unit-whole tree).bracketed
