use Rattle.std.proofs.Common.{◌≡◌, ◌<◌, ◌≤◌, ℕ, List, ap, arith, length, subst, sym, take, unwrap_or}
use Rattle.std.specs.Map.{lookup}
use Rattle.std.specs.Str.{bytes_eq}
use Rattle.std.proofs.lemmas.List.{length-take-le, take_all}
use Rattle.idl_changes.specs.Keys.{numbered_eq}
use Rattle.idl_changes.specs.Tables.{AreCounts, AreIds}
use Rattle.idl_changes.specs.declared.keys.NumberedText.{NumberedText}
use Rattle.idl_changes.proofs.ListingLemmas.{lent-at, lent-past, lent-within}
use Rattle.idl_changes.proofs.TableLemmas.{count-within, entry-next}
use Rattle.idl_repo.specs.declared.details.row_tree.RowTree.{RowTree}
use Rattle.idl_changes.proofs.joined.ids_of.Goals as goal

pub loop-place-init : goal.loop-place-init
loop-place-init c = record {
  ids = λ id n. ap (λ (m : List (NumberedText × ℕ)). lookup (numbered_eq (record { text = id; number = n })) m) c.in_ok-ids.ensures;
  counts = λ id. ap (λ (m : List (List ℕ × ℕ)). unwrap_or (lookup (bytes_eq id) m) 0) c.in_ok-counts.ensures;
}

pub add_id-requires : goal.add_id-requires
add_id-requires c =
    let L = c.args.listing.now in
    let i = c.loop-place.place in
    let within = lent-within c.trees-trees.result.now i c.loop-place-test.true in
    let below : i < length L = omega (arith, within, ap length c.trees-trees.ensures) in
    let few = count-within (take i L) c.loop-place.counts c.index-trees-place.result.now.id c.loop-place.invariant.counts in
    let count = length-take-le i L in
    omega (arith, below, few, count)

pub loop-place-preserved : goal.loop-place-preserved
loop-place-preserved c =
    let L = c.args.listing.now in
    let lent = c.trees-trees.result.now in
    let i = c.loop-place.place in
    let entry = c.index-trees-place.result in
    let within = lent-within lent i c.loop-place-test.true in
    let below : i < length L = omega (arith, within, ap length c.trees-trees.ensures) in
    let count = length-take-le i L in
    let at : i ≡ length (take i L) = omega (arith, below, count) in
    let next = entry-next L i entry.now (lent-at lent L c.trees-trees.ensures i entry c.loop-place-test.true c.index-trees-place.is) in
    let more = c.in_ok-add_id.ensures (take i L) at c.loop-place.invariant.ids c.loop-place.invariant.counts in
    record {
      ids = subst (λ (es : List RowTree). AreIds es c.add_id.new.ids) (sym next) more.0;
      counts = subst (λ (es : List RowTree). AreCounts es c.add_id.new.counts) (sym next) more.1;
    }

pub returns : goal.returns
returns c =
    let L = c.args.listing.now in
    let lent = c.trees-trees.result.now in
    let i = c.loop-place.place in
    let beyond = lent-past lent i c.loop-place-test.false in
    let past : length L ≤ i = omega (arith, beyond, ap length c.trees-trees.ensures) in
    subst (λ (es : List RowTree). AreIds es c.loop-place.ids) (take_all i L past) c.loop-place.invariant.ids
