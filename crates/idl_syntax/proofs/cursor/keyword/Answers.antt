use Rattle.std.proofs.Common.{arith}
use Rattle.std.proofs.lemmas.Grind.{common_steps}
use Rattle.idl_tree.specs.Lexeme.{lexeme_of}
use Rattle.idl_syntax.proofs.cursor.keyword.Goals as goal

pub returns-in-empty : goal.returns-in-empty
unfolding lexeme_of
returns-in-empty c = grind (arith, common_steps)

pub returns-in_default : goal.returns-in_default
unfolding lexeme_of
returns-in_default c = grind (arith, common_steps)

pub returns-in-Accepted : goal.returns-in-Accepted
unfolding lexeme_of
returns-in-Accepted c = grind (arith, common_steps)
