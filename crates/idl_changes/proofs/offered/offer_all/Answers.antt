use Rattle.std.proofs.Common.{◌∙◌, ◌&&◌, ℕ, List, None, Option, Some, ap, find, get_or, if◌then◌else◌, nat_eq, sym, take}
use Rattle.std.specs.Map.{lookup}
use Rattle.std.specs.Option.{option_or}
use Rattle.std.specs.Str.{bytes_eq}
use Rattle.std.proofs.lemmas.List.{take_more}
use Rattle.idl_changes.specs.Keys.{numbered_eq}
use Rattle.idl_changes.specs.Listing.{name_at}
use Rattle.idl_changes.proofs.OfferLemmas.{offer-next}
use Rattle.idl_changes.proofs.offered.offer_all.Goals as goal

pub offer_at-requires : goal.offer_at-requires
offer_at-requires c = c.requires c.loop-place.place-index 0 c.loop-place-test.true

pub loop-place-preserved : goal.loop-place-preserved
loop-place-preserved c = λ i name.
    let L = c.args.listing.now in
    let k = c.args.interface in
    let called = c.args.called.now in
    let at = c.loop-place.place-index in
    let n = get_or called at 0 in
    let test = λ (m : ℕ). bytes_eq name (name_at L m) in
    let before = lookup (numbered_eq (record { text = name; number = i })) c.args.offers.now in
    c.in_ok-offer_at.ensures i name
    ∙ ap (λ (o : Option ℕ). option_or o (if test n && nat_eq i k then Some n else None)) (c.loop-place.invariant i name)
    ∙ offer-next i k test (take at called) n before
    ∙ ap (λ (ks : List ℕ). option_or before (if nat_eq i k then find test ks else None)) (sym (take_more called at 0 c.loop-place-test.true))
