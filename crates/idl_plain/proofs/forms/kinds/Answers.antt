use Rattle.idl_plain.proofs.FormLaws.{kinds-ids, kinds-scopes, kinds-types}
use Rattle.idl_plain.proofs.forms.kinds.Goals as goal

pub returns-clause-types : goal.returns-clause-types
returns-clause-types c = kinds-types

pub returns-clause-scopes : goal.returns-clause-scopes
returns-clause-scopes c = kinds-scopes

pub returns-clause-ids : goal.returns-clause-ids
returns-clause-ids c = kinds-ids
