use Rattle.idl_plain.proofs.VerdictLaws.{verdict-asked}
use Rattle.idl_plain.proofs.visits.verdicts.Goals as goal

pub returns : goal.returns
returns c = verdict-asked
