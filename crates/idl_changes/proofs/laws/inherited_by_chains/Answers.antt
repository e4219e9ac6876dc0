use Rattle.idl_changes.proofs.ChainLemmas.{inherited-by-chains}
use Rattle.idl_changes.proofs.laws.inherited_by_chains.Goals as goal

pub returns : goal.returns
returns c = inherited-by-chains
