use Rattle.std.proofs.Common.{Bor, ℕ, ◌∙◌, map}
use Rattle.idl_changes.specs.Changes.{told_old}
use Rattle.idl_changes.proofs.ListingLemmas.{lent-past, lent-read, lent-within}
use Rattle.idl_changes.proofs.StepLemmas.{all-told-at, left-told-at}
use Rattle.idl_repo.specs.declared.details.row_tree.RowTree.{RowTree}
use Rattle.idl_changes.proofs.comparison.tell_old.Goals as goal

pub loop-place-preserved : goal.loop-place-preserved
loop-place-preserved c =
    let lent = c.trees-trees.result.now in
    let i = c.loop-place.place in
    let entry = c.index-trees-place.result in
    left-told-at (λ (p : ℕ × RowTree). told_old c.args.sides.now.0 c.args.sides.now.1 p.0 p.1) (map (λ (t : Bor RowTree). t.now) lent) c.args.sides.now.0
    (c.trees-trees.ensures ∙ c.listing.ensures ∙ c.before-2.ensures)
    i entry.now c.loop-place.out.items c.tell_entry.new.out.items _ (lent-within lent i c.loop-place-test.true) (lent-read lent i entry c.loop-place-test.true c.index-trees-place.is)
    c.in_ok-tell_entry.ensures c.loop-place.invariant

pub returns : goal.returns
returns c =
    let lent = c.trees-trees.result.now in
    all-told-at (λ (p : ℕ × RowTree). told_old c.args.sides.now.0 c.args.sides.now.1 p.0 p.1) (map (λ (t : Bor RowTree). t.now) lent) c.args.sides.now.0
    (c.trees-trees.ensures ∙ c.listing.ensures ∙ c.before-2.ensures)
    c.loop-place.place c.loop-place.out.items _ (lent-past lent c.loop-place.place c.loop-place-test.false) c.loop-place.invariant
