use Rattle.idl_plain.proofs.CodeLaws.{codes-told}
use Rattle.idl_plain.proofs.tables.codes.Goals as goal

pub returns : goal.returns
returns c = codes-told
