use Rattle.idl_check_laws.proofs.Visits.RowLaws.{unit-blank, walked-found}
use Rattle.idl_check.proofs.Visits.WholeLaws.{whole-none}
use Rattle.idl_check_laws.proofs.laws.wording.Goals as goal

pub returns-clause-found : goal.returns-clause-found
returns-clause-found c = λ turns answers sites w h. walked-found turns answers sites w (whole-none turns answers sites w h)

pub returns-clause-blank : goal.returns-clause-blank
returns-clause-blank c = unit-blank
