use Rattle.std.proofs.Common.{◌≡◌, Some, slice_get, sym, ◌∙◌, arith}
use Rattle.std.specs.Map.{keys_of}
use Rattle.std.proofs.lemmas.Map.Entries.{length-keys_of}
use Rattle.std.proofs.lemmas.Option.{none-some, slice_get_within}
use Rattle.idl_map.proofs.EntryLemmas.{lookup-absent, lookup-present}
use Rattle.idl_map.proofs.arena.Arena.get_at.Goals as goal

pub index-requires : goal.index-requires
index-requires g c =
    let entries = c.args.self.now.entries in
    let at : slice_get (keys_of entries.items) c.in-Some.place ≡ Some (g.L.Lent.key c.args.key.now) = (c.place_of.ensures c.in-Some.place).0 c.in-Some.is in
    omega (arith, slice_get_within (keys_of entries.items) c.in-Some.place (g.L.Lent.key c.args.key.now) at, length-keys_of entries.items, entries.ok.0)

pub returns-in-Some : goal.returns-in-Some
returns-in-Some g c =
    let arena = c.args.self.now in
    let at : slice_get (keys_of arena.entries.items) c.in-Some.place ≡ Some (g.L.Lent.key c.args.key.now) = (c.place_of.ensures c.in-Some.place).0 c.in-Some.is in
    sym (lookup-present g.K.PartialEq.eq g.met.K.Eq.laws g.met.K.Datum.same arena.entries.items arena.rest.entries (g.L.Lent.key c.args.key.now) c.in-Some.place c.index.result.now c.requires.distinct at c.index.ensures)

pub returns-in-None : goal.returns-in-None
returns-in-None g c =
    let arena = c.args.self.now in
    let absent = lookup-absent g.K.PartialEq.eq g.met.K.Eq.laws g.met.K.Datum.same arena.entries.items arena.rest.entries (g.L.Lent.key c.args.key.now)
    (λ i at. none-some i (sym c.in-None.is ∙ (c.place_of.ensures i).1 at)) in
    c.at_among_rest.ensures ∙ sym absent
