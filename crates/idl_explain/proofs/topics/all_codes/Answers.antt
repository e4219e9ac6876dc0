use Rattle.idl_explain.proofs.ListLemmas.{code-listed}
use Rattle.idl_explain.proofs.topics.all_codes.Goals as goal

pub returns : goal.returns
returns c = code-listed
