use Rattle.std.proofs.Common.{◌≡◌, ◌∙◌, ◌++◌, ℕ, List, OnOk, Option, subst}
use Rattle.idl_changes.specs.Differences.{list_differences, matched_differences}
use Rattle.idl_changes.proofs.lists.compare_lists.Goals as goal

pub returns : goal.returns
unfolding list_differences
returns g c =
    let sides = c.args.sides.now in
    let lists = c.args.lists.now in
    subst
    (λ (found : List (Option ℕ)). OnOk c.compare_matched.result
    (c.compare_matched.new.out.items
    ≡ c.args.out.now.items ++ matched_differences lists.item g.T.Named.name_of (g.T.ListItem.both sides.0 sides.1) found lists.before.now lists.after.now))
    (c.deref.ensures.value ∙ c.in_ok-found.ensures) c.compare_matched.ensures
