use Rattle.std.proofs.Common.{◌≡◌, ◌∙◌, ◌++◌, ◌∷◌, [], Bool, None, Option, ℕ, List, ap, arith, false, get_or, map, replicate, sym, take}
use Rattle.std.specs.List.{range_with_len}
use Rattle.std.proofs.lemmas.List.{replicate_more, take_all, take_more}
use Rattle.idl_changes.specs.Matched.{is_matched}
use Rattle.idl_changes.proofs.StepLemmas.{marked-by, none-marked}
use Rattle.idl_changes.proofs.matched.marked.Goals as goal

pub loop-place-preserved : goal.loop-place-preserved
loop-place-preserved c =
    let found = c.args.found.now in
    let i = c.loop-place.place-index in
    marked-by (take i found) (get_or found i None) c.args.count c.loop-place.marks.items c.mark.new.marks.items c.loop-place.invariant c.mark.ensures
    ∙ ap (λ (os : List (Option ℕ)). map (is_matched os) (range_with_len 0 c.args.count)) (sym (take_more found i None c.loop-place-test.true))

pub loop-place-init : goal.loop-place-init
loop-place-init c =
    let count : c.loop-item._item ≡ c.args.count = omega (arith, c.loop-item-test.false, c.loop-item.auto._item-end) in
    c.loop-item.invariant ∙ ap (λ (n : ℕ). replicate n false) count ∙ none-marked 0 c.args.count

pub loop-item-preserved : goal.loop-item-preserved
loop-item-preserved c =
    c.in_ok-push.ensures.items
    ∙ ap (λ (marks : List Bool). marks ++ false ∷ []) c.loop-item.invariant
    ∙ replicate_more c.loop-item._item false

pub returns : goal.returns
returns c =
    c.loop-place.invariant
    ∙ ap (λ (os : List (Option ℕ)). map (is_matched os) (range_with_len 0 c.args.count)) (take_all c.loop-place.place-index c.args.found.now c.loop-place-test.false)
