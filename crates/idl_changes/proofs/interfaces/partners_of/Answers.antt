use Rattle.std.proofs.Common.{◌∙◌, ◌||◌, ℕ, Bool, Option, Some, ap, ap₂, false, get_or, nat_eq, sym}
use Rattle.std.specs.List.{list_any}
use Rattle.std.specs.Option.{option_map_or}
use Rattle.std.proofs.lemmas.List.{take_all}
use Rattle.std.proofs.lemmas.List.Folds.{list_any_more}
use Rattle.idl_changes.specs.Partners.{is_partner, joined}
use Rattle.idl_changes.proofs.SetLemmas.{some-test}
use Rattle.idl_changes.proofs.interfaces.partners_of.Goals as goal

pub loop-place-init : goal.loop-place-init
loop-place-init c = λ n. ap (list_any (nat_eq n)) c.new-set.ensures.empty

pub loop-place-preserved : goal.loop-place-preserved
loop-place-preserved c = λ n.
    let old = c.args.sides.now.0 in
    let new = c.args.sides.now.1 in
    let places = c.args.places.now in
    let i = c.loop-place.place-index in
    c.in_ok-put_in.ensures n
    ∙ ap₂ (λ (a b : Bool). a || b) (c.loop-place.invariant n)
    (ap (λ (o : Option ℕ). option_map_or (nat_eq n) o false) c.joined.ensures ∙ some-test (joined old new (get_or places i 0)) n)
    ∙ sym (list_any_more (λ m. is_partner old new m (Some n)) places i 0 c.loop-place-test.true)

pub returns : goal.returns
returns c = λ n.
    c.loop-place.invariant n
    ∙ ap (list_any (λ m. is_partner c.args.sides.now.0 c.args.sides.now.1 m (Some n))) (take_all c.loop-place.place-index c.args.places.now c.loop-place-test.false)
