use Rattle.idl_plain.proofs.DirectiveLaws.{found-told, operands-told, pragmas-told}
use Rattle.idl_plain.proofs.directives.files.Goals as goal

pub returns-clause-operands : goal.returns-clause-operands
returns-clause-operands c = operands-told

pub returns-clause-found : goal.returns-clause-found
returns-clause-found c = found-told

pub returns-clause-pragmas : goal.returns-clause-pragmas
returns-clause-pragmas c = pragmas-told
