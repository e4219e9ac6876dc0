use Rattle.idl_plain.proofs.FormLaws.{operations-first, path-first, prefix-first}
use Rattle.idl_plain.proofs.RuleLaws.{begins-told, bodies-told, innermost-told, inside-told, labels-told, target-first}
use Rattle.idl_plain.proofs.forms.firsts.Goals as goal

pub returns-clause-tokens : goal.returns-clause-tokens
returns-clause-tokens c = begins-told

pub returns-clause-told : goal.returns-clause-told
returns-clause-told c = innermost-told

pub returns-clause-bodies : goal.returns-clause-bodies
returns-clause-bodies c = bodies-told

pub returns-clause-labels : goal.returns-clause-labels
returns-clause-labels c = labels-told

pub returns-clause-targets : goal.returns-clause-targets
returns-clause-targets c = target-first

pub returns-clause-inside : goal.returns-clause-inside
returns-clause-inside c = inside-told

pub returns-clause-prefixes : goal.returns-clause-prefixes
returns-clause-prefixes c = prefix-first

pub returns-clause-operations : goal.returns-clause-operations
returns-clause-operations c = operations-first

pub returns-clause-paths : goal.returns-clause-paths
returns-clause-paths c = path-first
