use Rattle.std.proofs.Common.{arith}
use Rattle.std.proofs.lemmas.Grind.{common_steps}
use Rattle.idl_tree.specs.reading.ReadName.{name_at, parts_at}
use Rattle.idl_syntax.proofs.name.scoped_name.Goals as goal

pub returns-clause-reads : goal.returns-clause-reads
unfolding name_at parts_at
returns-clause-reads c = grind (arith, common_steps)

pub returns-in_err-more-clause-reads : goal.returns-in_err-more-clause-reads
unfolding name_at parts_at
returns-in_err-more-clause-reads c = grind (arith, common_steps)

pub returns-in_err-first-clause-reads : goal.returns-in_err-first-clause-reads
unfolding name_at parts_at
returns-in_err-first-clause-reads c = grind (arith, common_steps)
