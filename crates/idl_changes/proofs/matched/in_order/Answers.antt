use Rattle.std.proofs.Common.{◌∙◌, ◌+◌, ◌&&◌, Bool, None, Option, ℕ, ap, drop, get_or, sym}
use Rattle.std.specs.Option.{option_or}
use Rattle.std.proofs.lemmas.List.{get_or_default}
use Rattle.idl_changes.specs.Matched.{in_order, in_order_from}
use Rattle.idl_changes.proofs.StepLemmas.{bound_behind, order-next}
use Rattle.idl_changes.proofs.matched.in_order.Goals as goal

pub loop-place-preserved : goal.loop-place-preserved
loop-place-preserved c =
    let found = c.args.found.now in
    let i = c.loop-place.place-index in
    let o = get_or found i None in
    let rest = drop (i + 1) found in
    let step = order-next found i o c.loop-place.last c.loop-place-test.true (get_or_default found i None o c.loop-place-test.true) in
    ap (λ (l : Option ℕ). in_order_from (bound_behind l) rest) c.or-last.ensures
    ∙ ap (λ (b : Bool). b && in_order_from (bound_behind (option_or o c.loop-place.last)) rest) (sym (sym c.is_behind.ensures ∙ c.if-not-is_behind.false))
    ∙ sym step ∙ c.loop-place.invariant

pub returns-then-not-is_behind : goal.returns-then-not-is_behind
unfolding in_order
returns-then-not-is_behind c =
    let found = c.args.found.now in
    let i = c.loop-place.place-index in
    let o = get_or found i None in
    let rest = drop (i + 1) found in
    let step = order-next found i o c.loop-place.last c.loop-place-test.true (get_or_default found i None o c.loop-place-test.true) in
    ap (λ (b : Bool). b && in_order_from (bound_behind (option_or o c.loop-place.last)) rest) (sym (sym c.is_behind.ensures ∙ c.if-not-is_behind.true))
    ∙ sym step ∙ c.loop-place.invariant
