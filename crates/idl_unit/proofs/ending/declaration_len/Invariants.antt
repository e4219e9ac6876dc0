use Rattle.idl_unit.proofs.EndingLemmas.{IsDeclarationTo}
use Rattle.idl_unit.proofs.ending.declaration_len.Given as goal

abbrev pub invariant-loop-index : goal.invariant-loop-index
invariant-loop-index l = IsDeclarationTo l.tokens l.index l.depth
