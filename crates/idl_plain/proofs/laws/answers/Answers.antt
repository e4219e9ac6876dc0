use Rattle.idl_plain.proofs.AnswerLaws.{bodies-told, events-told, files-told}
use Rattle.idl_plain.proofs.laws.answers.Goals as goal

pub returns-clause-files : goal.returns-clause-files
returns-clause-files c = files-told

pub returns-clause-bodies : goal.returns-clause-bodies
returns-clause-bodies c = bodies-told

pub returns-clause-events : goal.returns-clause-events
returns-clause-events c = events-told
