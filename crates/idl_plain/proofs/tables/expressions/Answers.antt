use Rattle.idl_plain.proofs.TableLaws.{expressions-told}
use Rattle.idl_plain.proofs.tables.expressions.Goals as goal

pub returns : goal.returns
returns c = expressions-told
