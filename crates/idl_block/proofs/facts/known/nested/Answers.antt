use Rattle.idl_block.proofs.FactLaws.NestedLaws.{nested-block}
use Rattle.idl_block.proofs.facts.known.nested.Goals as goal

pub returns : goal.returns
returns g c = λ bank outer parts proper enough.
    nested-block bank outer proper g.U.FactUnits.unit g.U.FactUnits.writes parts enough
