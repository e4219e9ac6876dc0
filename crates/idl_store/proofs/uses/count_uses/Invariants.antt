use Rattle.std.proofs.Common.{[], take}
use Rattle.idl_store.specs.Numbers.{AreMore}
use Rattle.idl_store.proofs.uses.count_uses.Given as goal

-- the uses so far are counted
abbrev pub invariant-loop-number : goal.invariant-loop-number
invariant-loop-number g l = AreMore l.fn.used l.used [] (take l.number-index l.numbers)
