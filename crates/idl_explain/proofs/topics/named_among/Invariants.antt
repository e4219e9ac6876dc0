use Rattle.std.proofs.Common.{All, take}
use Rattle.idl_explain.specs.Explained.{Names}
use Rattle.idl_explain.proofs.topics.named_among.Given as goal

-- none of those before is named
abbrev pub invariant-topics : goal.invariant-topics
invariant-topics l = All (λ topic. Names l.word topic → ⊥) (take l.topic-index l.topics)
