use Rattle.idl_store.proofs.StoredLaws.{committed-grown, grown-none, grown-twice, results_in-grown}
use Rattle.idl_store.proofs.laws.storing.Goals as goal

pub returns-clause-none : goal.returns-clause-none
returns-clause-none g c = grown-none

pub returns-clause-twice : goal.returns-clause-twice
returns-clause-twice g c = grown-twice

pub returns-clause-results : goal.returns-clause-results
returns-clause-results g c = results_in-grown

pub returns-clause-committed : goal.returns-clause-committed
returns-clause-committed g c = committed-grown
