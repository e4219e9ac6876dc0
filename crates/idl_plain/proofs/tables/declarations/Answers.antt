use Rattle.std.proofs.Common.{refl}
use Rattle.idl_plain.proofs.DeclaredLaws.{member-told, visit-told}
use Rattle.idl_plain.proofs.TableLaws.{entities-told, scopes-told}
use Rattle.idl_plain.proofs.tables.declarations.Goals as goal

pub returns-clause-entities : goal.returns-clause-entities
returns-clause-entities c = entities-told

pub returns-clause-scopes : goal.returns-clause-scopes
returns-clause-scopes c = λ w way name s scopes. (refl, scopes-told w way name s scopes)

pub returns-clause-visits : goal.returns-clause-visits
returns-clause-visits c = visit-told

pub returns-clause-members : goal.returns-clause-members
returns-clause-members c = member-told
