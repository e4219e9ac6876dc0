use Rattle.idl_memo.proofs.QueryLaws.{outcome-agree, asked-agree}
use Rattle.idl_scope.specs.Lookup.{denoted}
use Rattle.idl_scope.proofs.FactsLaws.{Agree-outside}
use Rattle.idl_scope.proofs.laws.reliance.Goals as goal

pub returns-clause-outcome : goal.returns-clause-outcome
returns-clause-outcome c = λ turns cursor name. outcome-agree (denoted turns cursor name)

pub returns-clause-asked : goal.returns-clause-asked
returns-clause-asked c = λ turns cursor name. asked-agree (denoted turns cursor name)

pub returns-clause-outside : goal.returns-clause-outside
returns-clause-outside c = Agree-outside
