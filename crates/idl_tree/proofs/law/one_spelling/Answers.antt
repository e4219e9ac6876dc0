use Rattle.idl_tree.proofs.UnitWhole.{unit_unique}
use Rattle.idl_tree.proofs.law.one_spelling.Goals as goal

pub returns : goal.returns
returns c = unit_unique
