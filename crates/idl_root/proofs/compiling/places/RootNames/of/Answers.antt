use Rattle.std.proofs.Common.{◌≡◌, ◌<◌, ◌∙◌, Some, ap, arith, get_or, length, map, refl, slice_get, subst, sym}
use Rattle.std.proofs.lemmas.List.{length-map}
use Rattle.std.proofs.lemmas.Option.{slice_get-get_or, slice_get_read, slice_get_within}
use Rattle.idl_root.specs.Named.{AreNumbersIn, ends_of, named_as}
use Rattle.idl_root.specs.NamePlaces.{used_in}
use Rattle.idl_root.proofs.NamingLemmas.{ends-count, get-mapped, item-at, items-more, names-done, until-more}
use Rattle.idl_root.proofs.compiling.places.RootNames.of.Goals as goal

pub bounds-ends-index : goal.bounds-ends-index
bounds-ends-index c =
    let all = map named_as c.args.units.now in
    omega (arith, c.loop-index-test.true, length-map c.args.units.now named_as, ends-count all c.in_ok-ends.ends.items c.in_ok-ends.ensures, ap length c.as_slice-ends.ensures.value)

pub prove-unreachable-requires : goal.prove-unreachable-requires
prove-unreachable-requires c =
    let all = map named_as c.args.units.now in
    let ends = c.as_slice-ends.result.now in
    let i = c.loop-index.index in
    let are = subst (λ ns. AreNumbersIn all ns (ends_of all)) (sym c.as_slice-ends.ensures.value) c.in_ok-ends.ensures in
    let within : i < length ends = omega (arith, c.loop-index-test.true, length-map c.args.units.now named_as, ends-count all ends are) in
    let item = item-at all (ends_of all) ends i (get_or ends i 0) are (slice_get-get_or ends i 0 within) in
    absurd (omega (arith, c.if-prove.true, slice_get_within all (get_or ends i 0) item.0 item.1.0, length-map c.args.units.now named_as))

pub loop-index-preserved : goal.loop-index-preserved
loop-index-preserved c =
    let events = c.args.events.now in
    let units = c.args.units.now in
    let all = map named_as units in
    let ends = c.as_slice-ends.result.now in
    let i = c.loop-index.index in
    let number = get_or ends i 0 in
    let unit = c.index-units-index.result in
    let end = c.index-units-end.result in
    let inv = c.loop-index.invariant in
    let are = subst (λ ns. AreNumbersIn all ns (ends_of all)) (sym c.as_slice-ends.ensures.value) c.in_ok-ends.ensures in
    let within : i < length ends = omega (arith, c.loop-index-test.true, length-map units named_as, ends-count all ends are) in
    let item = item-at all (ends_of all) ends i number are (slice_get-get_or ends i 0 within) in
    let here : slice_get all i ≡ Some (named_as unit) = get-mapped named_as units i unit (slice_get_read units (length units) i unit refl c.loop-index-test.true c.index-units-index.is) in
    let there : slice_get all number ≡ Some (named_as end) = get-mapped named_as units number end (slice_get_read units (length units) number end refl c.if-prove.false c.index-units-end.is) in
    let ended : slice_get (ends_of all) i ≡ Some (named_as end) = item.1.1 ∙ sym item.1.0 ∙ there in
    record {
      declared = until-more events all (ends_of all) i (named_as unit) (named_as end) c.loop-index.names.declared.items c.add_unit.new.self.declared.items here ended c.in_ok-add_unit.ensures.declared ∙ inv.declared;
      numbers = c.in_ok-add_unit.ensures.numbers;
      used = items-more (used_in events) all i (named_as unit) c.loop-index.names.used.items c.add_unit.new.self.used.items here c.in_ok-add_unit.ensures.used ∙ inv.used;
    }

pub returns : goal.returns
returns c =
    let all = map named_as c.args.units.now in
    let inv = c.loop-index.invariant in
    names-done c.loop-index.names c.args.events.now all c.loop-index.index (omega (arith, c.loop-index-test.false, length-map c.args.units.now named_as)) inv.declared inv.numbers inv.used
