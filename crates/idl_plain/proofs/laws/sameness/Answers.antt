use Rattle.idl_plain.proofs.SameLaws.{keys-decided, kinds-decided, paths-decided, root-keys-decided, stages-decided}
use Rattle.idl_plain.proofs.laws.sameness.Goals as goal

pub returns-clause-kinds : goal.returns-clause-kinds
returns-clause-kinds c = kinds-decided

pub returns-clause-stages : goal.returns-clause-stages
returns-clause-stages c = stages-decided

pub returns-clause-paths : goal.returns-clause-paths
returns-clause-paths c = paths-decided

pub returns-clause-keys : goal.returns-clause-keys
returns-clause-keys c = keys-decided

pub returns-clause-roots : goal.returns-clause-roots
returns-clause-roots c = root-keys-decided
