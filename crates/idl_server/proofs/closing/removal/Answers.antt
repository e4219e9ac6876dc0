use Rattle.idl_server.proofs.WorkspaceLemmas.{remove-edit}
use Rattle.idl_server.proofs.closing.removal.Goals as goal

pub returns-in-Some : goal.returns-in-Some
returns-in-Some c = λ told documents closed. remove-edit told documents c.args.name.now c.as_bytes.result.now c.as_bytes.ensures.bytes closed
