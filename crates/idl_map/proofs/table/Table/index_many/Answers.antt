use Rattle.std.proofs.Common.{subst, sym, arith}
use Rattle.std.specs.Map.{keys_of}
use Rattle.idl_map.specs.Table.{IsIndexOf, places_in}
use Rattle.std.proofs.lemmas.Grind.{common_steps}
use Rattle.idl_map.proofs.table.Table.index_many.Goals as goal

pub invariant_of-self : goal.invariant_of-self
invariant_of-self g c = record {
  distinct = c.self.invariant.distinct;
  places = subst (λ places. IsIndexOf (places_in g.K.PartialEq.eq places) (keys_of c.self.inside.entries.items)) (sym c.in_ok-new.ensures.ok)
      (subst (λ es. IsIndexOf (places_in g.K.PartialEq.eq c.in_ok-places.places) (keys_of es)) c.deref.ensures.value c.in_ok-places.ensures);
}

pub returns-then-is_some : goal.returns-then-is_some
returns-then-is_some g c = grind (arith, common_steps)

pub returns : goal.returns
returns g c = grind (arith, common_steps)
