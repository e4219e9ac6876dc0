use Rattle.idl_inputs.specs.Bank.{bank_of}
use Rattle.idl_inputs.proofs.RefiledLemmas.{AreCausesBut}
use Rattle.idl_inputs.proofs.refiled.Refiled.causes.Given as goal

-- the names that are left are still to be looked at
abbrev pub invariant-loop-name : goal.invariant-loop-name
invariant-loop-name l = AreCausesBut (bank_of l.fn.self.base.now) l.fn.self.edited.now.answers.entries l.name-iterator l.causes.items
