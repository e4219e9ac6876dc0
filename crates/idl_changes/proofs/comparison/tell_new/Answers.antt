use Rattle.std.proofs.Common.{Bor, ℕ, ◌∙◌, ◌++◌, List, None, Some, ap, map}
use Rattle.idl_changes.specs.Changes.{change_at, told_new}
use Rattle.idl_changes.specs.declared.change.Difference.{Difference}
use Rattle.idl_changes.proofs.ListingLemmas.{lent-past, lent-read, lent-within}
use Rattle.idl_changes.proofs.StepLemmas.{all-told-at, left-told-at}
use Rattle.idl_repo.specs.declared.details.row_tree.RowTree.{RowTree}
use Rattle.idl_changes.proofs.comparison.tell_new.Goals as goal

pub loop-place-preserved : goal.loop-place-preserved
loop-place-preserved c =
    let lent = c.trees-trees.result.now in
    let i = c.loop-place.place in
    let entry = c.index-trees-place.result in
    left-told-at (λ (p : ℕ × RowTree). told_new c.args.sides.now.0 c.args.sides.now.1 p.0 p.1) (map (λ (t : Bor RowTree). t.now) lent) c.args.sides.now.1
    (c.trees-trees.ensures ∙ c.listing.ensures ∙ c.after.ensures)
    i entry.now c.loop-place.out.items c.push_all.new.out.items _ (lent-within lent i c.loop-place-test.true) (lent-read lent i entry c.loop-place-test.true c.index-trees-place.is)
    (c.in_ok-push_all.ensures ∙ ap (λ (ds : List Difference). c.loop-place.out.items ++ map (change_at None (Some i)) ds) c.in_ok-told.ensures) c.loop-place.invariant

pub returns : goal.returns
returns c =
    let lent = c.trees-trees.result.now in
    all-told-at (λ (p : ℕ × RowTree). told_new c.args.sides.now.0 c.args.sides.now.1 p.0 p.1) (map (λ (t : Bor RowTree). t.now) lent) c.args.sides.now.1
    (c.trees-trees.ensures ∙ c.listing.ensures ∙ c.after.ensures)
    c.loop-place.place c.loop-place.out.items _ (lent-past lent c.loop-place.place c.loop-place-test.false) c.loop-place.invariant
