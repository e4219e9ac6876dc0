use Rattle.idl_text.proofs.ColumnLaws.{column-numbered, column-only, column-there}
use Rattle.idl_text.proofs.tokens.column.columns.Goals as goal

pub returns-clause-there : goal.returns-clause-there
returns-clause-there c = column-there

pub returns-clause-numbered : goal.returns-clause-numbered
returns-clause-numbered c = column-numbered

pub returns-clause-only : goal.returns-clause-only
returns-clause-only c = column-only
