use Rattle.std.proofs.Common.{◌∙◌, sym}
use Rattle.idl_check.specs.walk.AllFaults.{unit_faults}
use Rattle.idl_check.proofs.Faults.LeastFault.{least-among, least-before}
use Rattle.idl_check_laws.proofs.Faults.LeastLaws.{least-whole, none-at-all}
use Rattle.idl_check_laws.proofs.laws.least.Goals as goal

pub returns-clause-is : goal.returns-clause-is
returns-clause-is c = least-whole

pub returns-clause-among : goal.returns-clause-among
returns-clause-among c = λ turns text answers fault fits h. least-among (unit_faults turns answers text) fault (sym (least-whole turns text answers fits) ∙ h)

pub returns-clause-before : goal.returns-clause-before
returns-clause-before c = λ turns text answers fault fits h. least-before (unit_faults turns answers text) fault (sym (least-whole turns text answers fits) ∙ h)

pub returns-clause-none : goal.returns-clause-none
returns-clause-none c = none-at-all
