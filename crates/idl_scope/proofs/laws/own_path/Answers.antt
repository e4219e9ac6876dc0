use Rattle.idl_scope.proofs.LookupLaws.LookupLaws.{own_path}
use Rattle.idl_scope.proofs.laws.own_path.Goals as goal

pub returns : goal.returns
returns c = own_path
