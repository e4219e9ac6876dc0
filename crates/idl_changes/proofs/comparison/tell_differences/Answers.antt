use Rattle.std.proofs.Common.{◌≡◌, ◌∙◌, ◌++◌, [], List, OnOk, Option, Some, ap, append-nil, map, subst, sym}
use Rattle.std.specs.List.{slice_get}
use Rattle.std.specs.Option.{option_copied, option_map_or}
use Rattle.idl_changes.specs.Changes.{change_at}
use Rattle.idl_changes.specs.Differences.{differences}
use Rattle.idl_changes.specs.declared.change.Change.{Change}
use Rattle.idl_repo.specs.declared.details.row_tree.RowTree.{RowTree}
use Rattle.idl_changes.proofs.comparison.tell_differences.Goals as goal

pub returns-in_default : goal.returns-in_default
returns-in_default c =
    let old = c.args.sides.now.0 in
    let new = c.args.sides.now.1 in
    let i = c.args.places.0 in
    let k = c.args.places.1 in
    let e = c.args.entry.now in
    let out = c.args.out.now.items in
    let at = sym (c.entry.ensures ∙ ap (λ (L : List RowTree). slice_get L k) (c.listing.ensures ∙ c.after.ensures)) ∙ ap option_copied c.in_default.is in
    sym (append-nil out)
    ∙ sym (ap (λ (o : Option RowTree). out ++ map (change_at (Some i) (Some k)) (option_map_or (differences old new i k e) o [])) at)

pub returns : goal.returns
returns c =
    let old = c.args.sides.now.0 in
    let new = c.args.sides.now.1 in
    let i = c.args.places.0 in
    let k = c.args.places.1 in
    let e = c.args.entry.now in
    let at = sym (c.entry.ensures ∙ ap (λ (L : List RowTree). slice_get L k) (c.listing.ensures ∙ c.after.ensures)) ∙ ap option_copied c.in-Some.is in
    let same = ap (map (change_at (Some i) (Some k))) c.in_ok-told.ensures
    ∙ sym (ap (λ (o : Option RowTree). map (change_at (Some i) (Some k)) (option_map_or (differences old new i k e) o [])) at)
    in
    subst (λ (cs : List Change). OnOk c.push_all.result (c.push_all.new.out.items ≡ c.args.out.now.items ++ cs)) same c.push_all.ensures
