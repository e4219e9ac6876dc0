use Rattle.idl_plain.proofs.TableLaws.{numbers-told}
use Rattle.idl_plain.proofs.tables.numbers.Goals as goal

pub returns : goal.returns
returns c = numbers-told
