use Rattle.idl_macro.proofs.ConditionLaws.ExpressionLemmas.{expression-condition}
use Rattle.idl_macro.proofs.ConditionLaws.GrammarLemmas.{condition-expression}
use Rattle.idl_macro.proofs.conditions.condition.grammar.Goals as goal

pub returns : goal.returns
returns c = record { value = condition-expression; form = expression-condition }
