use Rattle.std.proofs.Common.{None, get_or}
use Rattle.std.specs.List.{slice_get}
use Rattle.std.specs.Option.{option_and_then}
use Rattle.std.proofs.lemmas.List.{get_or_default}
use Rattle.idl_changes.specs.Differences.{item_differences}
use Rattle.idl_changes.proofs.StepLemmas.{all-zipped, left-zipped}
use Rattle.idl_changes.proofs.lists.compare_items.Goals as goal

pub loop-place-preserved : goal.loop-place-preserved
loop-place-preserved g c =
    let sides = c.args.sides.now in
    let lists = c.args.lists.now in
    let found = c.args.found.now in
    let i = c.loop-place.place in
    let o = get_or found i None in
    left-zipped
    (λ p. item_differences lists.item g.T.Named.name_of (g.T.ListItem.both sides.0 sides.1) p.0 p.1.0 (option_and_then (slice_get lists.after.now) p.1.1))
    lists.before.now found i o c.loop-place.out.items c.compare_item_at.new.out.items _ c.loop-place-test.true (get_or_default found i None o c.loop-place-test.true)
    c.in_ok-compare_item_at.ensures c.loop-place.invariant

pub returns : goal.returns
returns g c =
    let sides = c.args.sides.now in
    let lists = c.args.lists.now in
    all-zipped
    (λ p. item_differences lists.item g.T.Named.name_of (g.T.ListItem.both sides.0 sides.1) p.0 p.1.0 (option_and_then (slice_get lists.after.now) p.1.1))
    lists.before.now c.args.found.now c.loop-place.place c.loop-place.out.items _ c.loop-place-test.false c.loop-place.invariant
