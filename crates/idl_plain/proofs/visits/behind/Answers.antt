use Rattle.idl_plain.proofs.VisitLaws.{array-told, scope-told, unfound-at}
use Rattle.idl_plain.proofs.visits.behind.Goals as goal

pub returns-clause-scopes : goal.returns-clause-scopes
returns-clause-scopes c = scope-told

pub returns-clause-arrays : goal.returns-clause-arrays
returns-clause-arrays c = array-told

pub returns-clause-unfound : goal.returns-clause-unfound
returns-clause-unfound c = unfound-at
