use Rattle.std.proofs.Common.{◌≡◌, Some, length, slice_get, sym, ap, ◌∙◌, subst, arith}
use Rattle.std.specs.Map.{keys_of}
use Rattle.std.proofs.lemmas.Map.Entries.{length-keys_of}
use Rattle.idl_map.proofs.TableLemmas.{IsIndexTo, IsIndexTo-all, IsIndexTo-next, slice_get-key}
use Rattle.idl_map.specs.Table.{places_in}
use Rattle.idl_map.proofs.PlaceLemmas.{Decides-eq_of}
use Rattle.idl_map.proofs.table.index_of.Goals as goal

pub loop-place-preserved : goal.loop-place-preserved
loop-place-preserved g c =
    let eq = g.K.PartialEq.eq in
    let es = c.args.entries.now in
    let place = c.loop-place.place in
    let item = c.index-entries-place.result in
    let copy = c.in_ok-clone.field-0 in
    let own : copy ≡ item.0 = g.met.K.Datum.copy item.0 copy c.in_ok-clone.ensures.cases in
    let at : slice_get (keys_of es) place ≡ Some copy =
    slice_get-key es place item (omega arith) ∙ ap (λ e. Some e.0) (sym c.index-entries-place.is) ∙ ap Some (sym own) in
    IsIndexTo-next (λ k. eq k copy) copy (Decides-eq_of eq g.met.K.Eq.laws g.met.K.Datum.same copy)
    (places_in eq c.loop-place.places) (places_in eq c.insert.new.self) (keys_of es) c.requires place at c.loop-place.invariant c.in_ok-insert.ensures.each_key

pub returns : goal.returns
returns g c =
    let places = places_in g.K.PartialEq.eq c.loop-place.places in
    let es = c.args.entries.now in
    let all : c.loop-place.place ≡ length (keys_of es) = omega (arith, length-keys_of es) in
    IsIndexTo-all places (keys_of es) (subst (λ n. IsIndexTo n places (keys_of es)) all c.loop-place.invariant)
