use Rattle.idl_block.proofs.FactLaws.AnsweredLaws.{answered-over, answered-behind}
use Rattle.idl_block.proofs.facts.answered.answering.Goals as goal

pub returns-clause-over : goal.returns-clause-over
returns-clause-over c = answered-over

pub returns-clause-behind : goal.returns-clause-behind
returns-clause-behind c = answered-behind
