use Rattle.idl_repo.proofs.EntryLaws.{entry-asked}
use Rattle.idl_repo.proofs.laws.asked_ids.Goals as goal

pub returns : goal.returns
returns c = entry-asked
