use Rattle.std.proofs.Common.{refl}
use Rattle.idl_plain.proofs.RuleLaws.{depths-told, faults-told, interface-told, steps-told, useless-told}
use Rattle.idl_plain.proofs.rules.refusals.Goals as goal

pub returns-clause-again : goal.returns-clause-again
returns-clause-again c = λ old new. refl

pub returns-clause-labels : goal.returns-clause-labels
returns-clause-labels c = λ unions v. refl

pub returns-clause-useless : goal.returns-clause-useless
returns-clause-useless c = useless-told

pub returns-clause-ids : goal.returns-clause-ids
returns-clause-ids c = λ text. refl

pub returns-clause-interfaces : goal.returns-clause-interfaces
returns-clause-interfaces c = interface-told

pub returns-clause-depths : goal.returns-clause-depths
returns-clause-depths c = depths-told

pub returns-clause-steps : goal.returns-clause-steps
returns-clause-steps c = steps-told

pub returns-clause-faults : goal.returns-clause-faults
returns-clause-faults c = faults-told
