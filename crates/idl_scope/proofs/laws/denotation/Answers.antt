use Rattle.idl_scope.proofs.LookupLaws.LookupLaws.{denotes}
use Rattle.idl_scope.proofs.LookupLaws.DenotesOnce.{denotes_once}
use Rattle.idl_scope.proofs.laws.denotation.Goals as goal

pub returns-clause-denoted : goal.returns-clause-denoted
returns-clause-denoted c = denotes

pub returns-clause-once : goal.returns-clause-once
returns-clause-once c = denotes_once
