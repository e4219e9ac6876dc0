use Rattle.idl_asked.proofs.FactLaws.{id-asked}
use Rattle.idl_asked.proofs.laws.ids.Goals as goal

pub returns : goal.returns
returns c = id-asked
