use Rattle.idl_json.proofs.ListedLemmas.{read-row}
use Rattle.idl_json.proofs.ReadingLemmas.{read-tree}
use Rattle.idl_json.proofs.laws.nothing_is_lost.Goals as goal

pub returns-clause-trees : goal.returns-clause-trees
returns-clause-trees c = read-tree

pub returns-clause-rows : goal.returns-clause-rows
returns-clause-rows c = read-row
