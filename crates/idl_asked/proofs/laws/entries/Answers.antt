use Rattle.idl_asked.proofs.FactLaws.{entry-asked}
use Rattle.idl_asked.proofs.laws.entries.Goals as goal

pub returns : goal.returns
returns c = entry-asked
