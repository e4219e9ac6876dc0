use Rattle.idl_changes.proofs.ClientLemmas.{clients-find}
use Rattle.idl_changes.proofs.laws.nothing_for_clients.Goals as goal

pub returns : goal.returns
returns c = clients-find
