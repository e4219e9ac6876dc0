use Rattle.idl_plain.proofs.VisitLaws.{walked-told, whole-told}
use Rattle.idl_plain.proofs.visits.sites.Goals as goal

pub returns-clause-whole : goal.returns-clause-whole
returns-clause-whole c = whole-told

pub returns-clause-walked : goal.returns-clause-walked
returns-clause-walked c = walked-told
