use Rattle.std.proofs.Common.{◌∙◌, ◌||◌, Bool, ap, get_or, nat_eq, sym}
use Rattle.std.specs.List.{list_any}
use Rattle.std.proofs.lemmas.List.{take_all}
use Rattle.std.proofs.lemmas.List.Folds.{list_any_more}
use Rattle.idl_changes.proofs.interfaces.set_of.Goals as goal

pub loop-place-init : goal.loop-place-init
loop-place-init c = λ n. ap (list_any (nat_eq n)) c.new-set.ensures.empty

pub loop-place-preserved : goal.loop-place-preserved
loop-place-preserved c = λ n.
    let places = c.args.places.now in
    let i = c.loop-place.place-index in
    c.in_ok-put_in.ensures n
    ∙ ap (λ (b : Bool). b || nat_eq n (get_or places i 0)) (c.loop-place.invariant n)
    ∙ sym (list_any_more (nat_eq n) places i 0 c.loop-place-test.true)

pub returns : goal.returns
returns c = λ n. c.loop-place.invariant n ∙ ap (list_any (nat_eq n)) (take_all c.loop-place.place-index c.args.places.now c.loop-place-test.false)
