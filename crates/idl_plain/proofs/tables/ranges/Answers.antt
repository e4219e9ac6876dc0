use Rattle.idl_plain.proofs.DeclaredLaws.{held-told, parts-told}
use Rattle.idl_plain.proofs.tables.ranges.Goals as goal

pub returns-clause-values : goal.returns-clause-values
returns-clause-values c = held-told

pub returns-clause-parts : goal.returns-clause-parts
returns-clause-parts c = parts-told
