use Rattle.idl_check_laws.proofs.Visits.SpokenLaws.{id-said, spoken-alone}
use Rattle.idl_check_laws.proofs.laws.speaking.Goals as goal

pub returns-clause-id : goal.returns-clause-id
returns-clause-id c = id-said

pub returns-clause-alone : goal.returns-clause-alone
returns-clause-alone c = spoken-alone
