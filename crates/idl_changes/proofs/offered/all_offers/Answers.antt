use Rattle.std.proofs.Common.{◌≡◌, ◌<◌, ◌≤◌, ◌∙◌, ◌+◌, ◌++◌, ◌∷◌, [], ℕ, All, Bool, List, None, Option, ap, ap₂, append-nil, append_assoc, arith, false, find, flat_map, get_or, if◌then◌else◌, length, nat_eq, nat_lt, subst, sym, take}
use Rattle.std.specs.Map.{lookup}
use Rattle.std.specs.Option.{option_or}
use Rattle.std.specs.Str.{bytes_eq}
use Rattle.std.proofs.lemmas.Bool.Decides.{nat_tests}
use Rattle.std.proofs.lemmas.List.{take_all, take_more}
use Rattle.std.proofs.lemmas.List.Concat.{flat_map-append}
use Rattle.idl_changes.specs.Keys.{numbered_eq}
use Rattle.idl_changes.specs.Listing.{name_at}
use Rattle.idl_changes.specs.Offered.{ancestors, called_in, offered, offers}
use Rattle.idl_changes.specs.declared.keys.NumberedText.{NumberedText}
use Rattle.idl_changes.proofs.OfferLemmas.{kept, kept-all, kept-more, kept-none}
use Rattle.idl_changes.proofs.SideLemmas.{all-offered, ancestors-there, called-there, called-within}
use Rattle.idl_changes.proofs.offered.all_offers.Goals as goal

pub loop-interface-init : goal.loop-interface-init
loop-interface-init c = λ i name.
    let L = c.args.listing.now in
    let none : nat_lt i 0 ≡ false = grind (arith, nat_tests) in
    ap (λ (m : List (NumberedText × ℕ)). lookup (numbered_eq (record { text = name; number = i })) m) c.in_ok-offers.ensures
    ∙ sym (ap (λ (b : Bool). if b then offered L i name else None) none)

pub offer_all-requires : goal.offer_all-requires
offer_all-requires c =
    let L = c.args.listing.now in
    let k = c.loop-interface.interface in
    subst (λ (ks : List ℕ). All (λ n. n < length L) ks) (sym (c.list_at.ensures ∙ called-there L k c.args.called.now c.requires.called)) (called-within L k)

pub loop-base-init : goal.loop-base-init
loop-base-init c = λ i name.
    let L = c.args.listing.now in
    let k = c.loop-interface.interface in
    let own = c.list_at.ensures ∙ called-there L k c.args.called.now c.requires.called in
    c.in_ok-offer_all.ensures i name
    ∙ ap₂ (λ (o : Option ℕ) (ks : List ℕ). option_or o (if nat_eq i k then find (λ n. bytes_eq name (name_at L n)) ks else None))
    (c.loop-interface.invariant i name ∙ sym (kept-none L name k i)) own
    ∙ kept-more L name k i [] (called_in L k)
    ∙ ap (kept L name k i) (sym (append-nil (called_in L k)))

pub offer_all-requires-in-loop-base : goal.offer_all-requires-in-loop-base
offer_all-requires-in-loop-base c =
    let L = c.args.listing.now in
    let base = get_or c.list_at-base-items.result.now c.loop-base.base-index 0 in
    subst (λ (ks : List ℕ). All (λ n. n < length L) ks) (sym (c.list_at-in-loop-base.ensures ∙ called-there L base c.args.called.now c.requires.called)) (called-within L base)

pub loop-base-preserved : goal.loop-base-preserved
loop-base-preserved c = λ i name.
    let L = c.args.listing.now in
    let k = c.loop-interface.interface in
    let items = c.list_at-base-items.result.now in
    let at = c.loop-base.base-index in
    let base = get_or items at 0 in
    let above = c.list_at-base-items.ensures ∙ ancestors-there L k c.args.inherited.now c.requires.inherited in
    let own = c.list_at-in-loop-base.ensures ∙ called-there L base c.args.called.now c.requires.called in
    let so_far = called_in L k ++ flat_map (called_in L) (take at (ancestors L k)) in
    let more = ap (λ (ks : List ℕ). flat_map (called_in L) (take (at + 1) ks)) (sym above)
    ∙ ap (flat_map (called_in L)) (take_more items at 0 c.loop-base-test.true)
    ∙ flat_map-append (called_in L) (take at items) (base ∷ [])
    ∙ ap₂ (λ (ks ls : List ℕ). flat_map (called_in L) (take at ks) ++ ls) above (append-nil (called_in L base))
    in
    c.in_ok-offer_all-2.ensures i name
    ∙ ap₂ (λ (o : Option ℕ) (ks : List ℕ). option_or o (if nat_eq i k then find (λ n. bytes_eq name (name_at L n)) ks else None)) (c.loop-base.invariant i name) own
    ∙ kept-more L name k i so_far (called_in L base)
    ∙ ap (kept L name k i)
    (append_assoc (called_in L k) (flat_map (called_in L) (take at (ancestors L k))) (called_in L base) ∙ ap (λ (ks : List ℕ). called_in L k ++ ks) (sym more))

pub loop-interface-preserved : goal.loop-interface-preserved
unfolding offers
loop-interface-preserved c = λ i name.
    let L = c.args.listing.now in
    let k = c.loop-interface.interface in
    let at = c.loop-base.base-index in
    let above = c.list_at-base-items.ensures ∙ ancestors-there L k c.args.inherited.now c.requires.inherited in
    let past : length (ancestors L k) ≤ at = omega (arith, c.loop-base-test.false, ap length above) in
    c.loop-base.invariant i name
    ∙ ap (λ (ks : List ℕ). kept L name k i (called_in L k ++ flat_map (called_in L) ks)) (take_all at (ancestors L k) past)
    ∙ kept-all L name k i

pub returns : goal.returns
returns c = λ i name.
    let L = c.args.listing.now in
    let z = c.loop-interface.interface in
    let past : length L ≤ z = omega (arith, c.loop-interface-test.false, c.len-interface-end.ensures) in
    c.loop-interface.invariant i name ∙ all-offered L i z name past
