use Rattle.idl_block.proofs.BlockLaws.{walk-block}
use Rattle.idl_block.proofs.JoinedLaws.{ended-joined, outer-joined}
use Rattle.idl_block.proofs.OuterLaws.{log-outer, Contains-outer, outcome-again, walk-alike, walk-taken}
use Rattle.idl_block.proofs.ResultLaws.{results-alike}
use Rattle.idl_block.proofs.block.blocks.Goals as goal

pub returns-clause-walk : goal.returns-clause-walk
returns-clause-walk g c = walk-block g.B.BlockWays.ways

pub returns-clause-log : goal.returns-clause-log
returns-clause-log g c parts written bank log known =
    log-outer g.B.BlockWays.ways bank g.B.Key.PartialEq.eq g.met.B.Key.Eq.laws.refl g.met.B.Key.Datum.same parts written log known

pub returns-clause-outer : goal.returns-clause-outer
returns-clause-outer g c parts written bank known = Contains-outer g.B.BlockWays.ways bank parts written known

pub returns-clause-joined : goal.returns-clause-joined
returns-clause-joined g c front parts written bank =
    (ended-joined g.B.BlockWays.ways bank front parts written, outer-joined g.B.BlockWays.ways bank front parts written)

pub returns-clause-again : goal.returns-clause-again
returns-clause-again g c parts written bank other known agree =
    outcome-again g.B.BlockWays.ways bank parts written known other agree

pub returns-clause-alike : goal.returns-clause-alike
returns-clause-alike g c answers before other parts written known agree over =
    walk-alike g.B.BlockWays.ways answers other parts written over before known agree

pub returns-clause-results : goal.returns-clause-results
returns-clause-results g c answers before other parts written known agree here there =
    results-alike g.B.BlockWays.ways g.B.Key.PartialEq.eq answers before other parts written known agree here there

pub returns-clause-taken : goal.returns-clause-taken
returns-clause-taken g c answers before parts written bank holds over =
    walk-taken g.B.BlockWays.ways answers before parts written over g.B.Key.PartialEq.eq g.met.B.Key.Eq.laws.refl g.met.B.Key.Datum.same bank holds
