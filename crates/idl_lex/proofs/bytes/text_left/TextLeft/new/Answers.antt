use Rattle.std.proofs.Common.{refl}
use Rattle.idl_lex.specs.bytes.Columns.{standing}
use Rattle.idl_lex.proofs.bytes.text_left.TextLeft.new.Goals as goal

pub returns : goal.returns
unfolding standing
returns c = refl
