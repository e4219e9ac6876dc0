use Rattle.std.proofs.Common.{◌≡◌, ◌∙◌, ◌++◌, [], List, OnOk, ap, append-nil, subst, sym}
use Rattle.std.specs.List.{slice_get}
use Rattle.std.specs.Option.{option_and_then, option_copied, option_map_or}
use Rattle.idl_changes.specs.Differences.{item_differences}
use Rattle.idl_changes.specs.declared.change.Difference.{Difference}
use Rattle.idl_changes.proofs.ListingLemmas.{got-item}
use Rattle.idl_changes.proofs.lists.compare_item_at.Goals as goal

pub returns-in_default : goal.returns-in_default
returns-in_default g c =
    let sides = c.args.sides.now in
    let lists = c.args.lists.now in
    let out = c.args.out.now.items in
    let at = sym (got-item lists.before.now c.args.places.0 c.get.result c.get.ensures.lookup.3) ∙ ap option_copied c.in_default.is in
    sym (append-nil out)
    ∙ sym (ap (λ found. out
    ++ option_map_or (λ x. item_differences lists.item g.T.Named.name_of (g.T.ListItem.both sides.0 sides.1) c.args.places.0 x (option_and_then (slice_get lists.after.now) c.args.places.1)) found []) at)

pub returns : goal.returns
returns g c =
    let sides = c.args.sides.now in
    let lists = c.args.lists.now in
    let item = c.in-Some.item.now in
    let at = sym (got-item lists.before.now c.args.places.0 c.get.result c.get.ensures.lookup.3) ∙ ap option_copied c.in-Some.is in
    let same = ap (λ other. item_differences lists.item g.T.Named.name_of (g.T.ListItem.both sides.0 sides.1) c.args.places.0 item other) c.at_place-other.ensures
    ∙ sym (ap (λ found. option_map_or (λ x. item_differences lists.item g.T.Named.name_of (g.T.ListItem.both sides.0 sides.1) c.args.places.0 x (option_and_then (slice_get lists.after.now) c.args.places.1)) found []) at)
    in
    subst (λ (ds : List Difference). OnOk c.compare_item.result (c.compare_item.new.out.items ≡ c.args.out.now.items ++ ds)) same c.compare_item.ensures
