use Rattle.std.proofs.Common.{sym, take}
use Rattle.std.proofs.lemmas.List.{take_all}
use Rattle.std.proofs.lemmas.List.Elements.{All-more, All-same}
use Rattle.idl_explain.specs.Explained.{Names}
use Rattle.idl_explain.specs.declared.explanation.Topic.{Topic}
use Rattle.idl_explain.proofs.topics.named_among.Goals as goal

pub topics-preserved : goal.topics-preserved
topics-preserved c =
    All-more (λ (t : Topic). Names c.args.word.now t → ⊥) c.args.topics.now c.topics.topic-index _ c.topics-test.true c.topics.invariant
    (λ named. let is = c.is_named.ensures.1 named in absurd (cc))

pub returns-clause-none : goal.returns-clause-none
returns-clause-none c =
    let topics = c.args.topics.now in
    All-same (λ (t : Topic). Names c.args.word.now t → ⊥) topics (take c.topics.topic-index topics) (sym (take_all c.topics.topic-index topics c.topics-test.false)) c.topics.invariant
