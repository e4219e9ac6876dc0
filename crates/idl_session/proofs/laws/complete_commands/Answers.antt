use Rattle.idl_session.proofs.CompleteLemmas.{complete-first, complete-all}
use Rattle.idl_session.proofs.laws.complete_commands.Goals as goal

pub returns-clause-first : goal.returns-clause-first
returns-clause-first c = complete-first

pub returns-clause-all : goal.returns-clause-all
returns-clause-all c = complete-all
