use Rattle.std.proofs.Common.{refl}
use Rattle.clap.proofs.OnLiterals.{clap_on_literals}
use Rattle.idl_program.specs.Words.{faults_in, found_in, idlc}
use Rattle.idl_program.proofs.laws.worked_words.Goals as goal

pub returns-clause-forms : goal.returns-clause-forms
unfolding clap_on_literals idlc faults_in found_in
returns-clause-forms c = (refl, refl, refl, refl, refl)

pub returns-clause-flags : goal.returns-clause-flags
unfolding clap_on_literals idlc faults_in found_in
returns-clause-flags c = (refl, refl, refl, refl, refl, refl)

pub returns-clause-session : goal.returns-clause-session
unfolding clap_on_literals idlc faults_in found_in
returns-clause-session c = (refl, refl)

pub returns-clause-texts : goal.returns-clause-texts
unfolding clap_on_literals idlc faults_in found_in
returns-clause-texts c = (refl, refl)

pub returns-clause-none : goal.returns-clause-none
unfolding clap_on_literals idlc faults_in found_in
returns-clause-none c = (refl, refl)

pub returns-clause-wrong : goal.returns-clause-wrong
unfolding clap_on_literals idlc faults_in found_in
returns-clause-wrong c = (refl, refl, refl, refl)
