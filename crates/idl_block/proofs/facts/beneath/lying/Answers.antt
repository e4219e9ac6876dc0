use Rattle.idl_block.proofs.FactLaws.BeneathLaws.{after-onto, all-onto, answers-append}
use Rattle.idl_block.proofs.facts.beneath.lying.Goals as goal

pub returns-clause-one : goal.returns-clause-one
returns-clause-one c = after-onto

pub returns-clause-all : goal.returns-clause-all
returns-clause-all c = all-onto

pub returns-clause-answers : goal.returns-clause-answers
returns-clause-answers c = answers-append
