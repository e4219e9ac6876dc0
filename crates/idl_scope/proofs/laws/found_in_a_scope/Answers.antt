use Rattle.idl_scope.proofs.LookupLaws.LookupLaws.{has-all, has-once, through-all}
use Rattle.idl_scope.proofs.laws.found_in_a_scope.Goals as goal

pub returns-clause-all : goal.returns-clause-all
returns-clause-all c = has-all

pub returns-clause-once : goal.returns-clause-once
returns-clause-once c = has-once

pub returns-clause-through : goal.returns-clause-through
returns-clause-through c = through-all
