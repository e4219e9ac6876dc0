use Rattle.idl_check_laws.proofs.PragmaLaws.{faulty-pragma}
use Rattle.idl_check_laws.proofs.Visits.StepLaws.{same-step}
use Rattle.idl_check.proofs.Visits.VerdictLaws.{faulty-is}
use Rattle.idl_check_laws.proofs.laws.refusal.Goals as goal

pub returns-clause-tokens : goal.returns-clause-tokens
returns-clause-tokens c = λ turns tokens answers. faulty-is turns answers tokens

pub returns-clause-step : goal.returns-clause-step
returns-clause-step c = same-step

pub returns-clause-pragma : goal.returns-clause-pragma
returns-clause-pragma c = faulty-pragma
