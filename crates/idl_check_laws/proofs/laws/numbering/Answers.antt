use Rattle.idl_check_laws.proofs.Faults.NumberLaws.{told-within}
use Rattle.idl_check_laws.proofs.PragmaLaws.{pragma-within}
use Rattle.idl_check.proofs.Visits.SiteLaws.{faults-within, walked-at}
use Rattle.idl_check_laws.proofs.laws.numbering.Goals as goal

pub returns-clause-walk : goal.returns-clause-walk
returns-clause-walk c = walked-at

pub returns-clause-site : goal.returns-clause-site
returns-clause-site c = faults-within

pub returns-clause-told : goal.returns-clause-told
returns-clause-told c = told-within

pub returns-clause-pragma : goal.returns-clause-pragma
returns-clause-pragma c = pragma-within
