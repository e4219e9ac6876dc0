use Rattle.std.proofs.Common.{◌∙◌, arith, sym}
use Rattle.idl_fault.specs.declared.place.Place.{Place}
use Rattle.idl_finding.proofs.LineNumberLemmas.{next-below}
use Rattle.idl_finding.proofs.number.next_number.Goals as goal

pub overflow_add-result : goal.overflow_add-result
overflow_add-result c =
    let place : Place = record { file = c.in_ok-place.place.0.now; line = c.in_ok-place.place.1 } in
    let before = sym c.in_ok-before.was ∙ c.requires c.if-event-gt0.true in
    let few = next-below c.args.expansion.now place c.args.event c.in_ok-before.field-0 c.if-event-gt0.true (sym c.if-stands_at.ensures) before in
    omega (arith, few, c.ranges.event.fits)
