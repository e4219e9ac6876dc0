use Rattle.idl_scope.proofs.LookupLaws.LookupLaws.{denoted-more, has-more}
use Rattle.idl_scope.proofs.laws.more_turns.Goals as goal

pub returns-clause-has : goal.returns-clause-has
returns-clause-has c facts own turns more h = has-more facts own turns h more

pub returns-clause-denoted : goal.returns-clause-denoted
returns-clause-denoted c facts own turns more h = denoted-more facts own turns h more
