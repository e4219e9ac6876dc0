use Rattle.idl_plain.proofs.CaseLaws.{name-told, scope-told}
use Rattle.idl_plain.proofs.cases.begun.Goals as goal

pub returns-clause-names : goal.returns-clause-names
returns-clause-names c = name-told

pub returns-clause-scopes : goal.returns-clause-scopes
returns-clause-scopes c = scope-told
