use Rattle.idl_plain.proofs.TableLaws.{allowances-told}
use Rattle.idl_plain.proofs.tables.allowances.Goals as goal

pub returns : goal.returns
returns c = allowances-told
