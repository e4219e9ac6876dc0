use Rattle.std.proofs.Common.{◌∙◌, ◌++◌, [], Bool, List, Some, ap, codes, get_or, if◌then◌else◌, nat_eq}
use Rattle.std.specs.List.{list_any}
use Rattle.std.proofs.lemmas.List.{get_or_default}
use Rattle.idl_changes.specs.Differences.{told}
use Rattle.idl_changes.specs.Listing.{path_at}
use Rattle.idl_changes.specs.Offered.{ancestors}
use Rattle.idl_changes.specs.Partners.{is_partner, joined}
use Rattle.idl_changes.specs.declared.change.Turn.TheVariants as turn
use Rattle.idl_changes.specs.declared.rows.Line.TheVariants as line
use Rattle.idl_changes.proofs.SetLemmas.{place-among}
use Rattle.idl_changes.proofs.StepLemmas.{all-told, left-told}
use Rattle.idl_repo.specs.declared.details.row_tree.RowTree.{RowTree}
use Rattle.idl_changes.proofs.interfaces.push_gone_bases.Goals as goal

pub loop-base-preserved : goal.loop-base-preserved
loop-base-preserved c =
    let old = c.args.sides.now.0 in
    let new = c.args.sides.now.1 in
    let places = c.args.places in
    let items = c.ancestors-bases.result.now in
    let i = c.loop-base.base-index in
    let m = get_or items i 0 in
    let out = c.loop-base.out.items in
    let gone = told line.BaseGone (codes "base " ++ path_at old m) turn.Gone in
    let above = c.ancestors.ensures ∙ ap (λ (L : List RowTree). ancestors L places.1) c.after.ensures in
    let among = place-among (joined old new m) c.in_ok-inherited.inherited.keys (ancestors new places.1)
    (λ n. c.in_ok-inherited.ensures n ∙ ap (list_any (nat_eq n)) above)
    in
    left-told
    (λ m. if list_any (λ n. is_partner old new m (Some n)) (ancestors new places.1) then [] else told line.BaseGone (codes "base " ++ path_at old m) turn.Gone)
    items (ancestors old places.0) (c.ancestors-bases.ensures ∙ ap (λ (L : List RowTree). ancestors L places.0) c.before-2.ensures)
    i m out c.push_gone_base.new.out.items _ c.loop-base-test.true (get_or_default items i 0 m c.loop-base-test.true)
    (c.in_ok-push_gone_base.ensures ∙ ap (λ (b : Bool). out ++ (if b then [] else gone)) among) c.loop-base.invariant

pub returns : goal.returns
returns c =
    let old = c.args.sides.now.0 in
    let new = c.args.sides.now.1 in
    let places = c.args.places in
    all-told
    (λ m. if list_any (λ n. is_partner old new m (Some n)) (ancestors new places.1) then [] else told line.BaseGone (codes "base " ++ path_at old m) turn.Gone)
    c.ancestors-bases.result.now (ancestors old places.0) (c.ancestors-bases.ensures ∙ ap (λ (L : List RowTree). ancestors L places.0) c.before-2.ensures)
    c.loop-base.base-index c.loop-base.out.items _ c.loop-base-test.false c.loop-base.invariant
