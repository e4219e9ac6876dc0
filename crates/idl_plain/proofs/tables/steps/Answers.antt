use Rattle.idl_plain.proofs.TableLaws.{steps-told}
use Rattle.idl_plain.proofs.tables.steps.Goals as goal

pub returns : goal.returns
returns c = steps-told
