use Rattle.idl_scope.proofs.AroundLaws.{around-closes, around-less, around-more, around-pair, around-same, around-wider}
use Rattle.idl_scope.proofs.laws.agreeing_around.Goals as goal

pub returns-clause-wider : goal.returns-clause-wider
returns-clause-wider c = around-wider

pub returns-clause-same : goal.returns-clause-same
returns-clause-same c = around-same

pub returns-clause-pair : goal.returns-clause-pair
returns-clause-pair c = around-pair

pub returns-clause-less : goal.returns-clause-less
returns-clause-less c = around-less

pub returns-clause-more : goal.returns-clause-more
returns-clause-more c = around-more

pub returns-clause-closes : goal.returns-clause-closes
returns-clause-closes c = around-closes
