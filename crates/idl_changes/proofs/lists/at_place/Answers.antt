use Rattle.std.proofs.Common.{◌∙◌, ap, sym}
use Rattle.std.specs.List.{slice_get}
use Rattle.std.specs.Option.{option_and_then}
use Rattle.idl_changes.proofs.ListingLemmas.{got-item}
use Rattle.idl_changes.proofs.lists.at_place.Goals as goal

pub returns-in-Some : goal.returns-in-Some
returns-in-Some g c =
    got-item c.args.items.now c.in-Some.place c.get.result c.get.ensures.lookup.3
    ∙ ap (option_and_then (slice_get c.args.items.now)) (sym c.in-Some.is)
