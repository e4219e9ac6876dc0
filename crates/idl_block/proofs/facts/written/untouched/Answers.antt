use Rattle.idl_block.proofs.FactLaws.WrittenLaws.{answered-among, last-among}
use Rattle.idl_block.proofs.facts.written.untouched.Goals as goal

pub returns-clause-among : goal.returns-clause-among
returns-clause-among c = last-among

pub returns-clause-answered : goal.returns-clause-answered
returns-clause-answered c = answered-among
