use Rattle.idl_plain.proofs.TableLaws.{tokens-told}
use Rattle.idl_plain.proofs.tables.tokens.Goals as goal

pub returns : goal.returns
returns c = tokens-told
