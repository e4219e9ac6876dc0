use Rattle.idl_unit.specs.Ending.{ends}
use Rattle.idl_unit.proofs.HeldLemmas.{tokens-cut}
use Rattle.idl_unit.proofs.PartsLemmas.{only-parts}
use Rattle.idl_unit.proofs.laws.one_cut.Goals as goal

pub returns-clause-cut : goal.returns-clause-cut
returns-clause-cut c = tokens-cut

pub returns-clause-only : goal.returns-clause-only
returns-clause-only c = only-parts ends
