use Rattle.std.proofs.Common.{Bor, ◌≡◌, ℕ, List, ap, arith, length, map, subst, sym, take}
use Rattle.std.specs.Map.{lookup}
use Rattle.std.specs.Str.{bytes_eq}
use Rattle.std.proofs.lemmas.List.{length-map, length-take-le}
use Rattle.idl_changes.specs.Listing.{place_of}
use Rattle.idl_changes.specs.Tables.{ArePlaces}
use Rattle.idl_changes.proofs.ListingLemmas.{take-next}
use Rattle.idl_repo.specs.declared.details.row_tree.RowTree.{RowTree}
use Rattle.idl_changes.proofs.listing.Listing.new.Goals as goal

pub loop-place-init : goal.loop-place-init
unfolding place_of
loop-place-init c = λ path. ap (λ (m : List (List ℕ × ℕ)). lookup (bytes_eq path) m) c.in_ok-places.ensures

pub loop-place-preserved : goal.loop-place-preserved
loop-place-preserved c =
    let trees = c.args.trees.now in
    let i = c.loop-place.place in
    let tree = c.index-trees-place.result in
    let before = map (λ (t : Bor RowTree). t.now) (take i trees) in
    let at : i ≡ length before = omega (arith, length-map (take i trees) (λ (t : Bor RowTree). t.now), length-take-le i trees) in
    subst (λ (L : List RowTree). ArePlaces L c.add_place.new.places) (sym (take-next trees i tree c.loop-place-test.true c.index-trees-place.is))
    (c.in_ok-add_place.ensures before at c.loop-place.invariant)
