use Rattle.idl_unit.proofs.TokenLemmas.{IsWalked}
use Rattle.idl_unit.proofs.token_rules.first_fault.Given as goal

abbrev pub invariant-loop-index : goal.invariant-loop-index
invariant-loop-index l = IsWalked l.unit l.index l.before
