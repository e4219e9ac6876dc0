use Rattle.idl_prep.proofs.CandidateLemmas.{IsFirstPresent-file_of, asked-file_of}
use Rattle.idl_prep.proofs.directives.candidate.first_candidate.Goals as goal

pub returns-clause-found : goal.returns-clause-found
returns-clause-found c = λ files directories bank from o answers. IsFirstPresent-file_of files directories bank answers from o

pub returns-clause-asked : goal.returns-clause-asked
returns-clause-asked c = λ files directories bank from o answers. asked-file_of files directories bank answers from o
