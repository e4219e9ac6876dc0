use Rattle.idl_plain.proofs.NameLaws.{name-asked, outward-told, reach-told, uses-scanned}
use Rattle.idl_plain.proofs.names.denoting.Goals as goal

pub returns-clause-denoted : goal.returns-clause-denoted
returns-clause-denoted c = name-asked

pub returns-clause-outward : goal.returns-clause-outward
returns-clause-outward c = outward-told

pub returns-clause-reach : goal.returns-clause-reach
returns-clause-reach c = λ name cursor inside first. reach-told cursor inside first name

pub returns-clause-uses : goal.returns-clause-uses
returns-clause-uses c = uses-scanned
