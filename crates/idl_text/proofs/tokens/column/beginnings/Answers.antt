use Rattle.idl_text.proofs.BeginningLemmas.{starts_of-cut, starts_of-tokens}
use Rattle.idl_text.proofs.tokens.column.beginnings.Goals as goal

pub returns-clause-all : goal.returns-clause-all
returns-clause-all c = starts_of-tokens

pub returns-clause-places : goal.returns-clause-places
returns-clause-places c = starts_of-cut
