use Rattle.idl_plain.proofs.PragmaLaws.{spelled}
use Rattle.idl_plain.proofs.laws.pragmas.Goals as goal

pub returns : goal.returns
returns c = spelled
