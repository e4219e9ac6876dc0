use Rattle.idl_repo.proofs.EntryLaws.{entry-declared, entry-unknown}
use Rattle.idl_repo.proofs.laws.listed_row.Goals as goal

pub returns-clause-declared : goal.returns-clause-declared
returns-clause-declared c = entry-declared

pub returns-clause-unknown : goal.returns-clause-unknown
returns-clause-unknown c = entry-unknown
