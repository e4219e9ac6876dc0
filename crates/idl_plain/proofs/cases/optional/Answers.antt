use Rattle.idl_plain.proofs.CaseLaws.{array-told, bases-told, id-told, operations-told, path-told, prefix-told, raised-told, switch-told, taken-told, target-told, there-told, value-told}
use Rattle.idl_plain.proofs.cases.optional.Goals as goal

pub returns-clause-paths : goal.returns-clause-paths
returns-clause-paths c = path-told

pub returns-clause-targets : goal.returns-clause-targets
returns-clause-targets c = target-told

pub returns-clause-switches : goal.returns-clause-switches
returns-clause-switches c = switch-told

pub returns-clause-values : goal.returns-clause-values
returns-clause-values c = value-told

pub returns-clause-there : goal.returns-clause-there
returns-clause-there c = there-told

pub returns-clause-bases : goal.returns-clause-bases
returns-clause-bases c = bases-told

pub returns-clause-operations : goal.returns-clause-operations
returns-clause-operations c = operations-told

pub returns-clause-raised : goal.returns-clause-raised
returns-clause-raised c = raised-told

pub returns-clause-arrays : goal.returns-clause-arrays
returns-clause-arrays c = array-told

pub returns-clause-prefixes : goal.returns-clause-prefixes
returns-clause-prefixes c = prefix-told

pub returns-clause-ids : goal.returns-clause-ids
returns-clause-ids c = id-told

pub returns-clause-taken : goal.returns-clause-taken
returns-clause-taken c = taken-told
