use Rattle.std.proofs.Common.{◌≡◌, ◌∙◌, Some, ap, length, refl, slice_get, sym}
use Rattle.std.proofs.lemmas.Option.{slice_get_read}
use Rattle.idl_root.specs.Named.{named_as}
use Rattle.idl_root.specs.NamePlaces.{declared_by, used_by}
use Rattle.idl_root.proofs.NamingLemmas.{items-more}
use Rattle.idl_root.proofs.compiling.places.RootNames.add_unit.Goals as goal

pub loop-name-preserved : goal.loop-name-preserved
loop-name-preserved c =
    let events = c.args.events.now in
    let unit = named_as c.args.unit.now in
    let end = named_as c.args.end.now in
    let i = c.loop-name.name-index in
    let name = c.name-item.result in
    let names = c.deref-name-items.result.now in
    let here : slice_get unit.names i ≡ Some name =
    ap (λ l. slice_get l i) (sym c.deref-name-items.ensures.value) ∙ slice_get_read names (length names) i name refl c.loop-name-test.true c.name-item.is in
    let inv = c.loop-name.invariant in
    record {
      declared = items-more (declared_by events unit end) unit.names i name c.loop-name.self.declared.items c.add_name.new.self.declared.items here c.in_ok-add_name.ensures.declared ∙ inv.declared;
      numbers = c.in_ok-add_name.ensures.numbers;
      used = items-more (used_by events unit) unit.names i name c.loop-name.self.used.items c.add_name.new.self.used.items here c.in_ok-add_name.ensures.used ∙ inv.used;
    }
