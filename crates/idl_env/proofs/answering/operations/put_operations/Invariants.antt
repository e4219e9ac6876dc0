use Rattle.std.proofs.Common.{◌≡◌, ◌++◌, drop}
use Rattle.idl_env.specs.Facts.{operations_among}
use Rattle.idl_env.proofs.answering.operations.put_operations.Given as goal

-- those so far and those among the rest are all
abbrev pub invariant-loop-index : goal.invariant-loop-index
invariant-loop-index l = l.own.items ++ operations_among (drop l.index l.facts.additions) ≡ l.fn.own.items ++ operations_among l.facts.additions
