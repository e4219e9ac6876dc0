use Rattle.idl_root.proofs.TextLaws.{facts-text, verdicts-text}
use Rattle.idl_root.proofs.compiling.laws.texts.Goals as goal

pub returns-clause-facts : goal.returns-clause-facts
returns-clause-facts c = λ facts units. facts-text units facts

pub returns-clause-verdicts : goal.returns-clause-verdicts
returns-clause-verdicts c = λ facts units. verdicts-text units facts
