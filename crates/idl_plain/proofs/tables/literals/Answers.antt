use Rattle.idl_plain.proofs.CodeLaws.{digits-told, integers-held, letters-told}
use Rattle.idl_plain.proofs.tables.literals.Goals as goal

pub returns-clause-letters : goal.returns-clause-letters
returns-clause-letters c = letters-told

pub returns-clause-digits : goal.returns-clause-digits
returns-clause-digits c = digits-told

pub returns-clause-integers : goal.returns-clause-integers
returns-clause-integers c = integers-held
