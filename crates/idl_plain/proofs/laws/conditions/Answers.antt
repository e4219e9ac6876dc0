use Rattle.idl_plain.proofs.ConditionLaws.{condition-means}
use Rattle.idl_plain.proofs.laws.conditions.Goals as goal

pub returns : goal.returns
returns c = condition-means c.grammar.ensures.value c.grammar.ensures.form
