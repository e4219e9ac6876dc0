use Rattle.idl_tool.proofs.CheckLemmas.{reported-once, reported-told}
use Rattle.idl_tool.proofs.laws.findings_are_told_once.Goals as goal

pub returns-clause-told : goal.returns-clause-told
returns-clause-told c = λ files told reports are. reported-told files told reports are

pub returns-clause-once : goal.returns-clause-once
returns-clause-once c = λ files told reports are. reported-once files told reports are
