use Rattle.idl_plain.proofs.TableLaws.{before-told, between-told}
use Rattle.idl_plain.proofs.tables.operators.Goals as goal

pub returns-clause-between : goal.returns-clause-between
returns-clause-between c = between-told

pub returns-clause-before : goal.returns-clause-before
returns-clause-before c = before-told
