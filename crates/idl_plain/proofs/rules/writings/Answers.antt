use Rattle.idl_plain.proofs.RuleLaws.{opened-told, written-told}
use Rattle.idl_plain.proofs.rules.writings.Goals as goal

pub returns-clause-openings : goal.returns-clause-openings
returns-clause-openings c = opened-told

pub returns-clause-types : goal.returns-clause-types
returns-clause-types c = written-told
