use Rattle.std.proofs.Common.{rules}
use Rattle.idl_tree.proofs.Levels.Units.{enough, within_length}
use Rattle.idl_tree.proofs.law.nesting.Goals as goal

pub returns-clause-same : goal.returns-clause-same
returns-clause-same c levels n m tokens within = enough levels n m tokens (search rules)

pub returns-clause-most : goal.returns-clause-most
returns-clause-most c tokens = let w = within_length tokens in search rules
