use Rattle.idl_plain.proofs.CodeLaws.{marks-told}
use Rattle.idl_plain.proofs.tables.marks.Goals as goal

pub returns : goal.returns
returns c = marks-told
