use Rattle.std.proofs.Common.{take}
use Rattle.idl_tool.specs.Answered.{AreListed}
use Rattle.idl_tool.proofs.explain.push_list.Given as goal

-- those before are listed
abbrev pub invariant-topics : goal.invariant-topics
invariant-topics l = AreListed (take l.topic-index l.topics) l.fn.out.items l.out.items
