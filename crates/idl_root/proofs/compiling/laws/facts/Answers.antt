use Rattle.idl_root.proofs.FactsTold.{facts-told, turns-before}
use Rattle.idl_root.proofs.compiling.laws.facts.Goals as goal

pub returns-clause-told : goal.returns-clause-told
returns-clause-told c = facts-told c.more_turns.ensures

pub returns-clause-before : goal.returns-clause-before
returns-clause-before c = turns-before
