use Rattle.std.proofs.Common.{arith}
use Rattle.std.proofs.lemmas.Grind.{common_steps}
use Rattle.idl_tree.specs.reading.ReadConstruction.{all_with}
use Rattle.idl_syntax.proofs.literal.wide_text.Goals as goal

pub returns : goal.returns
unfolding all_with
returns c = grind (arith, common_steps)

pub returns-in_default : goal.returns-in_default
unfolding all_with
returns-in_default c = grind (arith, common_steps)

pub returns-in_err-more : goal.returns-in_err-more
unfolding all_with
returns-in_err-more c = grind (arith, common_steps)
