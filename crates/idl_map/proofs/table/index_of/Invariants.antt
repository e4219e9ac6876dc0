use Rattle.std.specs.Map.{keys_of}
use Rattle.idl_map.proofs.TableLemmas.{IsIndexTo}
use Rattle.idl_map.specs.Table.{places_in}
use Rattle.idl_map.proofs.table.index_of.Given as goal

abbrev pub invariant-loop-place : goal.invariant-loop-place
invariant-loop-place g l = IsIndexTo l.place (places_in g.K.PartialEq.eq l.places) (keys_of l.entries)
