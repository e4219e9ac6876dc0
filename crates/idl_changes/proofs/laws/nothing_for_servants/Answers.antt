use Rattle.idl_changes.proofs.ServantLemmas.{servants-serve}
use Rattle.idl_changes.proofs.laws.nothing_for_servants.Goals as goal

pub returns : goal.returns
returns c = servants-serve
