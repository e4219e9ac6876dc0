use Rattle.std.proofs.Common.{◌≡◌, ◌∙◌, ◌≤◌, ◌++◌, ◌∷◌, [], ℕ, List, ap, arith, length, replicate}
use Rattle.std.proofs.lemmas.List.{replicate_more}
use Rattle.idl_changes.proofs.ListingLemmas.{lent-at, lent-past}
use Rattle.idl_changes.proofs.SideLemmas.{called-all, called-next, empty-each, put_behind}
use Rattle.idl_changes.proofs.offered.all_called.Goals as goal

pub loop-entry-preserved : goal.loop-entry-preserved
loop-entry-preserved c =
    let none : List ℕ = [] in
    c.in_ok-push.ensures.items
    ∙ ap (λ (l : List ℕ). c.loop-entry.all.items ++ l ∷ []) c.new.ensures
    ∙ ap (λ (ls : List (List ℕ)). ls ++ none ∷ []) c.loop-entry.invariant
    ∙ replicate_more c.loop-entry._entry none

pub loop-place-init : goal.loop-place-init
loop-place-init c =
    let L = c.args.listing.now in
    let none : List ℕ = [] in
    let count : c.loop-entry._entry ≡ length L = omega arith in
    c.loop-entry.invariant ∙ ap (λ (n : ℕ). replicate n none) count ∙ empty-each none 0 L

pub loop-place-preserved : goal.loop-place-preserved
loop-place-preserved c =
    let L = c.args.listing.now in
    let lent = c.trees-trees.result.now in
    let i = c.loop-place.place in
    let entry = c.index-trees-place.result in
    called-next L i entry.now c.loop-place.all.items c.put_called.new.all.items (lent-at lent L c.trees-trees.ensures i entry c.loop-place-test.true c.index-trees-place.is)
    c.loop-place.invariant (c.in_ok-put_called.ensures ∙ ap (put_behind L c.loop-place.all.items i) c.in_ok-interface.ensures)

pub returns : goal.returns
returns c =
    let L = c.args.listing.now in
    let lent = c.trees-trees.result.now in
    let i = c.loop-place.place in
    let beyond = lent-past lent i c.loop-place-test.false in
    let past : length L ≤ i = omega (arith, beyond, ap length c.trees-trees.ensures) in
    c.loop-place.invariant ∙ called-all L i past
