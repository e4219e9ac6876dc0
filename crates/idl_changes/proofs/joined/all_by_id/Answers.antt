use Rattle.std.proofs.Common.{◌∙◌, ◌+◌, ◌<◌, ◌≤◌, ◌++◌, ◌∷◌, [], ℕ, List, Option, ap, arith, length, subst, sym, take}
use Rattle.std.proofs.lemmas.List.{length-take-le}
use Rattle.idl_changes.specs.Listing.{by_id, next_by_id}
use Rattle.idl_changes.specs.Tables.{AreCounts}
use Rattle.idl_changes.proofs.ListingLemmas.{lent-at, lent-past, lent-within}
use Rattle.idl_changes.proofs.TableLemmas.{all-places, count-within, each-next, entry-next}
use Rattle.idl_repo.specs.declared.details.row_tree.RowTree.{RowTree}
use Rattle.idl_changes.proofs.joined.all_by_id.Goals as goal

pub found_by_id-requires : goal.found_by_id-requires
found_by_id-requires c =
    let L = c.args.old.now in
    let i = c.loop-tree.tree-index in
    let within = lent-within c.trees-tree-items.result.now i c.loop-tree-test.true in
    let below : i < length L = omega (arith, within, ap length c.trees-tree-items.ensures) in
    let few = count-within (take i L) c.loop-tree.counts c.tree-item.result.now.id c.loop-tree.invariant.counts in
    let count = length-take-le i L in
    omega (arith, below, few, count)

pub loop-tree-preserved : goal.loop-tree-preserved
unfolding by_id
loop-tree-preserved c =
    let old = c.args.old.now in
    let new = c.args.new.now in
    let lent = c.trees-tree-items.result.now in
    let i = c.loop-tree.tree-index in
    let entry = c.tree-item.result in
    let at = lent-at lent old c.trees-tree-items.ensures i entry c.loop-tree-test.true c.tree-item.is in
    let more = c.in_ok-found.ensures new (take i old) c.in_ok-ids.ensures c.loop-tree.invariant.counts in
    record {
      counts = subst (λ (es : List RowTree). AreCounts es c.found_by_id.new.counts) (sym (entry-next old i entry.now at)) more.1;
      found = c.in_ok-push.ensures.items
          ∙ ap (λ (o : Option ℕ). c.loop-tree.all.items ++ o ∷ []) more.0
          ∙ ap (λ (os : List (Option ℕ)). os ++ next_by_id new (take i old) entry.now ∷ []) c.loop-tree.invariant.found
          ∙ sym (each-next (by_id old new) old i entry.now at);
    }

pub returns : goal.returns
returns c =
    let old = c.args.old.now in
    let lent = c.trees-tree-items.result.now in
    let i = c.loop-tree.tree-index in
    let beyond = lent-past lent i c.loop-tree-test.false in
    let past : length old ≤ i = omega (arith, beyond, ap length c.trees-tree-items.ensures) in
    c.loop-tree.invariant.found ∙ all-places (by_id old c.args.new.now) old i past
