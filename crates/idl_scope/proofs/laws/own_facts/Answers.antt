use Rattle.idl_scope.proofs.FactsLaws.{answers-own, outcome-under, asked-under}
use Rattle.idl_scope.proofs.laws.own_facts.Goals as goal

pub returns-clause-seen : goal.returns-clause-seen
returns-clause-seen t c = answers-own

pub returns-clause-outcome : goal.returns-clause-outcome
returns-clause-outcome t c = λ own query bank. outcome-under own bank query

pub returns-clause-asked : goal.returns-clause-asked
returns-clause-asked t c = λ own query bank. asked-under own bank query
