use Rattle.idl_repo.proofs.ToldLemmas.{ids-behind}
use Rattle.idl_repo.proofs.laws.references.Goals as goal

pub returns : goal.returns
returns c = ids-behind
