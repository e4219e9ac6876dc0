use Rattle.std.proofs.Common.{refl}
use Rattle.idl_plain.proofs.DirectiveLaws.{parameters-told, path-told, step-told}
use Rattle.idl_plain.proofs.directives.operands.Goals as goal

pub returns-clause-names : goal.returns-clause-names
returns-clause-names c = path-told

pub returns-clause-steps : goal.returns-clause-steps
returns-clause-steps c = step-told

pub returns-clause-numbers : goal.returns-clause-numbers
returns-clause-numbers c = λ spelling. refl

pub returns-clause-parameters : goal.returns-clause-parameters
returns-clause-parameters c = parameters-told

pub returns-clause-quoted : goal.returns-clause-quoted
returns-clause-quoted c = λ t. refl

pub returns-clause-lines : goal.returns-clause-lines
returns-clause-lines c = λ text. refl
