use Rattle.idl_plain.proofs.RowLaws.{entries-told, rows-told}
use Rattle.idl_plain.proofs.rows.listing.Goals as goal

pub returns-clause-rows : goal.returns-clause-rows
returns-clause-rows c = rows-told

pub returns-clause-entries : goal.returns-clause-entries
returns-clause-entries c = entries-told
