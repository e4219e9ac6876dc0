use Rattle.std.proofs.Common.{◌≤◌, arith, get_or, length, refl}
use Rattle.idl_changes.proofs.ListingLemmas.{name-end, name-next}
use Rattle.idl_changes.proofs.listing.name_start.Goals as goal

pub loop-place-preserved : goal.loop-place-preserved
loop-place-preserved c =
    let path = c.args.path.now in
    let i = c.loop-place.place in
    let next = name-next path i c.loop-place.start c.start_behind-start.result (get_or path i 0) c.loop-place-test.true refl c.loop-place.invariant.within c.loop-place.invariant.name c.start_behind-start.ensures in
    record { within = next.0; name = next.1 }

pub returns : goal.returns
returns c =
    let path = c.args.path.now in
    let i = c.loop-place.place in
    let within : c.loop-place.start ≤ length path = omega (arith, c.loop-place.invariant.within) in
    let end = name-end path i c.loop-place.start c.loop-place-test.false within c.loop-place.invariant.name in
    record { within = within; name = end.0; rest = end.1 }
