use Rattle.idl_plain.proofs.DirectiveLaws.{defined-told, missing-told, there-told}
use Rattle.idl_plain.proofs.directives.macros.Goals as goal

pub returns-clause-there : goal.returns-clause-there
returns-clause-there c = there-told

pub returns-clause-missing : goal.returns-clause-missing
returns-clause-missing c = missing-told

pub returns-clause-defined : goal.returns-clause-defined
returns-clause-defined c = defined-told
