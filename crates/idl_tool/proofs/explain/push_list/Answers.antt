use Rattle.idl_tool.proofs.ExplainLemmas.{listed-at}
use Rattle.idl_tool.proofs.explain.push_list.Goals as goal

pub topics-preserved : goal.topics-preserved
topics-preserved c =
    listed-at c.args.topics.now c.topics.topic-index _ c.explanation_of.result.now c.args.out.now.items c.topics.out.items c.push_headline.new.out.items
    c.topics-test.true c.topics.invariant c.explanation_of.ensures c.in_ok-push_headline.ensures
