use Rattle.idl_changes.proofs.NothingLemmas.{changes-own}
use Rattle.idl_changes.proofs.laws.nothing_changes.Goals as goal

pub returns : goal.returns
returns c = changes-own
