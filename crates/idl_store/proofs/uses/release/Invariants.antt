use Rattle.std.proofs.Common.{take}
use Rattle.idl_store.specs.Numbers.{AreFewer, AreUsed, IsIndexOf}
use Rattle.idl_store.proofs.uses.release.Given as goal

-- the uses so far are given up
abbrev pub invariant-loop-number : goal.invariant-loop-number
invariant-loop-number g l = record {
  fewer : AreFewer l.fn.used l.used (take l.number-index l.numbers);
  used : AreUsed l.used;
  indexed : IsIndexOf l.used l.index;
}
