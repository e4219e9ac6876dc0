use Rattle.idl_plain.proofs.RankLaws.{parts-told, terms-told}
use Rattle.idl_plain.proofs.tables.ranks.Goals as goal

pub returns-clause-terms : goal.returns-clause-terms
returns-clause-terms c = terms-told

pub returns-clause-parts : goal.returns-clause-parts
returns-clause-parts c = parts-told
