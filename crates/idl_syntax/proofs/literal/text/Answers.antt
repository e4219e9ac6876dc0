use Rattle.std.proofs.Common.{arith}
use Rattle.std.proofs.lemmas.Grind.{common_steps}
use Rattle.idl_tree.specs.reading.ReadConstruction.{all_with}
use Rattle.idl_tree.specs.reading.ReadInterface.{text_at}
use Rattle.idl_syntax.proofs.literal.text.Goals as goal

pub returns-clause-reads : goal.returns-clause-reads
unfolding text_at all_with
returns-clause-reads c = grind (arith, common_steps)

pub returns-in_default-clause-reads : goal.returns-in_default-clause-reads
unfolding text_at all_with
returns-in_default-clause-reads c = grind (arith, common_steps)

pub returns-in_err-more-clause-reads : goal.returns-in_err-more-clause-reads
unfolding text_at all_with
returns-in_err-more-clause-reads c = grind (arith, common_steps)
