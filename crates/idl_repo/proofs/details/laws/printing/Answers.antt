use Rattle.idl_repo.proofs.ToldLemmas.{row-printed}
use Rattle.idl_repo.proofs.details.laws.printing.Goals as goal

pub returns : goal.returns
returns c = row-printed
