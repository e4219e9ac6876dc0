use Rattle.idl_plain.proofs.TableLaws.{uses-told}
use Rattle.idl_plain.proofs.tables.uses.Goals as goal

pub returns : goal.returns
returns c = uses-told
