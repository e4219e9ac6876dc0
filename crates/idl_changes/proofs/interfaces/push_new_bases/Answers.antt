use Rattle.std.proofs.Common.{◌∙◌, ◌++◌, [], ℕ, Bool, List, Some, ap, codes, get_or, if◌then◌else◌}
use Rattle.std.specs.List.{list_any}
use Rattle.std.proofs.lemmas.List.{get_or_default}
use Rattle.idl_changes.specs.Differences.{base_line, told}
use Rattle.idl_changes.specs.Listing.{path_at}
use Rattle.idl_changes.specs.Offered.{ancestors}
use Rattle.idl_changes.specs.Partners.{is_partner}
use Rattle.idl_changes.specs.declared.change.Turn.TheVariants as turn
use Rattle.idl_changes.proofs.StepLemmas.{all-told, left-told}
use Rattle.idl_repo.specs.declared.details.row_tree.RowTree.{RowTree}
use Rattle.idl_changes.proofs.interfaces.push_new_bases.Goals as goal

pub loop-base-preserved : goal.loop-base-preserved
loop-base-preserved c =
    let old = c.args.sides.now.0 in
    let new = c.args.sides.now.1 in
    let places = c.args.places in
    let items = c.ancestors-bases.result.now in
    let i = c.loop-base.base-index in
    let n = get_or items i 0 in
    let out = c.loop-base.out.items in
    let added = told (base_line old new places.0 n) (codes "base " ++ path_at new n) turn.New in
    let below = c.ancestors.ensures ∙ ap (λ (L : List RowTree). ancestors L places.0) c.before-2.ensures in
    let goes_on = c.in_ok-goes_on.ensures n ∙ ap (list_any (λ (m : ℕ). is_partner old new m (Some n))) below in
    left-told
    (λ n. if list_any (λ m. is_partner old new m (Some n)) (ancestors old places.0) then [] else told (base_line old new places.0 n) (codes "base " ++ path_at new n) turn.New)
    items (ancestors new places.1) (c.ancestors-bases.ensures ∙ ap (λ (L : List RowTree). ancestors L places.1) c.after.ensures)
    i n out c.push_new_base.new.out.items _ c.loop-base-test.true (get_or_default items i 0 n c.loop-base-test.true)
    (c.in_ok-push_new_base.ensures ∙ ap (λ (b : Bool). out ++ (if b then [] else added)) goes_on) c.loop-base.invariant

pub returns : goal.returns
returns c =
    let old = c.args.sides.now.0 in
    let new = c.args.sides.now.1 in
    let places = c.args.places in
    all-told
    (λ n. if list_any (λ m. is_partner old new m (Some n)) (ancestors old places.0) then [] else told (base_line old new places.0 n) (codes "base " ++ path_at new n) turn.New)
    c.ancestors-bases.result.now (ancestors new places.1) (c.ancestors-bases.ensures ∙ ap (λ (L : List RowTree). ancestors L places.1) c.after.ensures)
    c.loop-base.base-index c.loop-base.out.items _ c.loop-base-test.false c.loop-base.invariant
