use Rattle.idl_explain.specs.Explained.{Names}
use Rattle.idl_explain.specs.declared.explanation.Topic.{Topic}
use Rattle.idl_explain.proofs.ListLemmas.{none-named}
use Rattle.idl_explain.proofs.topics.topic_named.Goals as goal

pub returns-in-None-clause-none : goal.returns-in-None-clause-none
returns-in-None-clause-none c =
    none-named c.named_among-in-None.result (λ (t : Topic). Names c.args.word.now t → ⊥) c.all_codes.result.now c.all_refusals.result.now c.in-None.ensures.none
    c.named_among-in-None.ensures.none c.all_codes.ensures c.all_refusals.ensures
