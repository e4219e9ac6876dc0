use Rattle.idl_scope.proofs.IdLaws.{identities-same}
use Rattle.idl_scope.proofs.laws.identities.Goals as goal

pub returns : goal.returns
returns c = identities-same
