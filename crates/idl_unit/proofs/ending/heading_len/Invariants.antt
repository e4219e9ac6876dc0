use Rattle.idl_unit.proofs.EndingLemmas.{IsHeadingTo}
use Rattle.idl_unit.proofs.ending.heading_len.Given as goal

abbrev pub invariant-loop-index : goal.invariant-loop-index
invariant-loop-index l = IsHeadingTo l.tokens l.index
