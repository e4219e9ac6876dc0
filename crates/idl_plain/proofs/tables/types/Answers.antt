use Rattle.idl_plain.proofs.TableLaws.{basics-spelled, integers-told, types-spelled, types-told}
use Rattle.idl_plain.proofs.tables.types.Goals as goal

pub returns-clause-words : goal.returns-clause-words
returns-clause-words c = λ k. (integers-told k).0

pub returns-clause-widths : goal.returns-clause-widths
returns-clause-widths c = λ k. (integers-told k).1

pub returns-clause-signs : goal.returns-clause-signs
returns-clause-signs c = λ k. (integers-told k).2

pub returns-clause-spelled : goal.returns-clause-spelled
returns-clause-spelled c = types-spelled

pub returns-clause-kinds : goal.returns-clause-kinds
returns-clause-kinds c = types-told

pub returns-clause-basics : goal.returns-clause-basics
returns-clause-basics c = basics-spelled
