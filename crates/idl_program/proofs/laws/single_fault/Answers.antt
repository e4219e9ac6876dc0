use Rattle.idl_program.proofs.FaultLemmas.{apart, single}
use Rattle.idl_program.proofs.laws.single_fault.Goals as goal

pub returns-clause-single : goal.returns-clause-single
returns-clause-single c = single

pub returns-clause-apart : goal.returns-clause-apart
returns-clause-apart c = apart
