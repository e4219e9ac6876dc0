use Rattle.idl_scope.proofs.LookupLaws.LookupLaws.{reaches}
use Rattle.idl_scope.proofs.laws.introduction.Goals as goal

pub returns : goal.returns
returns c = reaches
