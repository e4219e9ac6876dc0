use Rattle.idl_plain.proofs.EndingLaws.{ends-before, opens-heading, steps-faulty}
use Rattle.idl_plain.proofs.laws.units.Goals as goal

pub returns-clause-ending : goal.returns-clause-ending
returns-clause-ending c = ends-before

pub returns-clause-opening : goal.returns-clause-opening
returns-clause-opening c = opens-heading

pub returns-clause-step : goal.returns-clause-step
returns-clause-step c = steps-faulty
