use Rattle.idl_scope.proofs.FactsLaws.{after_all-append, over-outside, after-outside}
use Rattle.idl_scope.proofs.laws.adding.Goals as goal

pub returns-clause-together : goal.returns-clause-together
returns-clause-together c = after_all-append

pub returns-clause-additions : goal.returns-clause-additions
returns-clause-additions c = over-outside

pub returns-clause-facts : goal.returns-clause-facts
returns-clause-facts c = after-outside
