use Rattle.idl_map.specs.Table.{places_behind}
use Rattle.idl_map.proofs.TableLemmas.{IsIndexed-front}
use Rattle.idl_map.proofs.table.Table.pop.Goals as goal

pub invariant_of-self : goal.invariant_of-self
invariant_of-self g c =
    IsIndexed-front (places_behind g.K.PartialEq.eq c.self.inside.index) c.self.inside.entries.items c.pop.new.self.items c.pop.result c.pop.ensures.items c.self.invariant
