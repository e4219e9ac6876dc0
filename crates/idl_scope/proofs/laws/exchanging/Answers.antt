use Rattle.idl_scope.proofs.ExchangeLaws.{after-exchanged, after-less, after-more, looked_at_by-outside}
use Rattle.idl_scope.proofs.laws.exchanging.Goals as goal

pub returns-clause-pair : goal.returns-clause-pair
returns-clause-pair c = after-exchanged

pub returns-clause-less : goal.returns-clause-less
returns-clause-less c = after-less

pub returns-clause-more : goal.returns-clause-more
returns-clause-more c = after-more

pub returns-clause-looked_at : goal.returns-clause-looked_at
returns-clause-looked_at c = looked_at_by-outside
