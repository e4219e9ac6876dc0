use Rattle.idl_scope.proofs.PrefixLaws.{prefix-behind_file, prefix-behind_scope, prefix-in_file, prefix-inside, prefix-told}
use Rattle.idl_scope.proofs.laws.prefixes.Goals as goal

pub returns-clause-scope : goal.returns-clause-scope
returns-clause-scope c = prefix-behind_scope

pub returns-clause-file : goal.returns-clause-file
returns-clause-file c = prefix-behind_file

pub returns-clause-opened : goal.returns-clause-opened
returns-clause-opened c = prefix-inside

pub returns-clause-entered : goal.returns-clause-entered
returns-clause-entered c = prefix-in_file

pub returns-clause-pragma : goal.returns-clause-pragma
returns-clause-pragma c = prefix-told
