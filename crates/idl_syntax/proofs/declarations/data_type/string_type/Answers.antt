use Rattle.std.proofs.Common.{arith}
use Rattle.std.proofs.lemmas.Grind.{common_steps}
use Rattle.idl_tree.specs.reading.ReadType.{string_with}
use Rattle.idl_syntax.proofs.declarations.data_type.string_type.Goals as goal

pub returns-clause-reads : goal.returns-clause-reads
unfolding string_with
returns-clause-reads c = grind (arith, common_steps)

pub returns-in_default-clause-reads : goal.returns-in_default-clause-reads
unfolding string_with
returns-in_default-clause-reads c = grind (arith, common_steps)

pub returns-in_err-bound-clause-reads : goal.returns-in_err-bound-clause-reads
unfolding string_with
returns-in_err-bound-clause-reads c = grind (arith, common_steps)
