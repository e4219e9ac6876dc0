use Rattle.std.proofs.Common.{◌∙◌, sym, subst, arith, [], Result}
use Rattle.idl_check_laws.proofs.Fits.InheritedLaws.{standing-inherited, standing-reached}
use Rattle.idl_check_laws.proofs.UseLaws.{uses-told}
use Rattle.idl_check_laws.proofs.Visits.RowLaws.{used-path}
use Rattle.idl_check.proofs.Visits.VisitLemmas.{turns-here}
use Rattle.idl_check.specs.walk.Walk.{turns_at}
use Rattle.idl_scope.proofs.FactsLaws.{outcome-under}
use Rattle.idl_scope.proofs.LookupLaws.LookupLaws.{denotes, reaches}
use Rattle.idl_env.specs.Facts.{answers}
use Rattle.idl_scope.specs.Lookup.{denoted}
use Rattle.idl_scope.specs.Meaning.{Denotes, entity_found, seen}
use Rattle.idl_scope.specs.declared.fault.NameFault.{NameFault}
use Rattle.idl_scope.specs.declared.found.Found.{Found}
use Rattle.idl_check_laws.proofs.laws.denoting.Goals as goal

pub returns-clause-denoted : goal.returns-clause-denoted
returns-clause-denoted c = λ facts turns w name enough.
    let Q : Result Found NameFault → Type 0 = λ r. Denotes (seen w.own facts) w.cursor name (entity_found r) in
    subst Q (sym (outcome-under w.own (answers facts) (denoted (turns_at turns w) w.cursor name)))
    (denotes facts w.own (turns_at turns w) (turns-here facts w.own turns enough) w.cursor name)

pub returns-clause-introduced : goal.returns-clause-introduced
returns-clause-introduced c = λ facts turns w name found enough is.
    reaches facts w.own (turns_at turns w) (turns-here facts w.own turns enough) w.cursor name found
    (sym (outcome-under w.own (answers facts) (denoted (turns_at turns w) w.cursor name)) ∙ is)

pub returns-clause-used : goal.returns-clause-used
returns-clause-used c = λ facts own n r cursor. uses-told facts own n r cursor

pub returns-clause-path : goal.returns-clause-path
returns-clause-path c = λ facts turns w way name found is. used-path turns (answers facts) way name w found is

pub returns-clause-pragma : goal.returns-clause-pragma
returns-clause-pragma c = λ facts turns scopes name enough. denotes facts [] turns (omega (arith, enough)) scopes name

pub returns-clause-inherited : goal.returns-clause-inherited
returns-clause-inherited c = standing-inherited

pub returns-clause-reached : goal.returns-clause-reached
returns-clause-reached c = standing-reached
