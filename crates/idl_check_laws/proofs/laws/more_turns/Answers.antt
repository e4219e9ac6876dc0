use Rattle.idl_check_laws.proofs.Visits.MoreTurns.{verdict-same}
use Rattle.idl_check_laws.proofs.laws.more_turns.Goals as goal

pub returns : goal.returns
returns c = λ facts turns more text log enough. verdict-same facts turns enough more text log
