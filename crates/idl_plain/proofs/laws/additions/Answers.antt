use Rattle.std.proofs.Common.{refl}
use Rattle.idl_plain.proofs.AdditionLaws.{answers-over, inherited-told, keys-told, operations-told, turns-needed, turns-told}
use Rattle.idl_plain.proofs.laws.additions.Goals as goal

pub returns-clause-turns : goal.returns-clause-turns
returns-clause-turns c = turns-told

pub returns-clause-needed : goal.returns-clause-needed
returns-clause-needed c = turns-needed

pub returns-clause-keys : goal.returns-clause-keys
returns-clause-keys c = keys-told

pub returns-clause-answers : goal.returns-clause-answers
returns-clause-answers c = answers-over

pub returns-clause-operations : goal.returns-clause-operations
returns-clause-operations c = operations-told

pub returns-clause-inherited : goal.returns-clause-inherited
returns-clause-inherited c = inherited-told

pub returns-clause-counted : goal.returns-clause-counted
returns-clause-counted c = λ additions w. refl
