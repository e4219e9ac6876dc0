use Rattle.idl_check_laws.proofs.PragmaLaws.{asks-pragma, prefix-asks}
use Rattle.idl_check.proofs.Visits.VerdictLaws.{verdict-asks}
use Rattle.idl_check_laws.proofs.laws.questions.Goals as goal

pub returns-clause-rules : goal.returns-clause-rules
returns-clause-rules c = λ turns tokens answers some. verdict-asks turns answers tokens (λ none. absurd (some none))

pub returns-clause-tree : goal.returns-clause-tree
returns-clause-tree c = λ turns tokens answers no. verdict-asks turns answers tokens (λ none. no)

pub returns-clause-pragma : goal.returns-clause-pragma
returns-clause-pragma c = asks-pragma

pub returns-clause-prefix : goal.returns-clause-prefix
returns-clause-prefix c = prefix-asks
