use Rattle.idl_check_laws.proofs.PragmaLaws.{spoken-pragma}
use Rattle.idl_check.proofs.Visits.VerdictLaws.{sound-is, spelled-tree, tree-spelled}
use Rattle.idl_check_laws.proofs.laws.acceptance.Goals as goal

pub returns-clause-sound : goal.returns-clause-sound
returns-clause-sound c = λ turns tokens answers. sound-is turns answers tokens

pub returns-clause-tree : goal.returns-clause-tree
returns-clause-tree c = λ tokens tree. (tree-spelled tokens tree, spelled-tree tokens tree)

pub returns-clause-pragma : goal.returns-clause-pragma
returns-clause-pragma c = spoken-pragma
