use Rattle.idl_block.proofs.AgreedLaws.{agreed-inside}
use Rattle.idl_block.proofs.NestingLaws.{log-nested, outcome-nested, outer-nested}
use Rattle.idl_block.proofs.nested.nesting.Goals as goal

pub returns-clause-outcome : goal.returns-clause-outcome
returns-clause-outcome g c outer bank parts written nested = outcome-nested g.B.BlockWays.ways outer bank parts written nested

pub returns-clause-outer : goal.returns-clause-outer
returns-clause-outer g c outer bank parts written nested = outer-nested g.B.BlockWays.ways outer bank parts written nested

pub returns-clause-log : goal.returns-clause-log
returns-clause-log g c outer bank parts written log nested known =
    log-nested g.B.BlockWays.ways outer bank g.B.Key.PartialEq.eq g.met.B.Key.Eq.laws.refl g.met.B.Key.Datum.same parts written log nested known

pub returns-clause-agreed : goal.returns-clause-agreed
returns-clause-agreed g c outer bank other parts written nested nested_there known known_there agree =
    agreed-inside g.B.BlockWays.ways outer bank other parts written nested nested_there known known_there agree
