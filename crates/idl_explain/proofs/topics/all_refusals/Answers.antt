use Rattle.idl_explain.proofs.ListLemmas.{refusal-listed}
use Rattle.idl_explain.proofs.topics.all_refusals.Goals as goal

pub returns : goal.returns
returns c = refusal-listed
