use Rattle.std.proofs.Common.{◌∙◌, ◌+◌, ◌++◌, [], Bool, List, ap, false, if◌then◌else◌, length, refl, unwrap_or}
use Rattle.std.specs.List.{slice_get}
use Rattle.idl_changes.specs.Differences.{item_part, new_differences, told}
use Rattle.idl_changes.specs.declared.change.Turn.TheVariants as turn
use Rattle.idl_changes.specs.declared.rows.Line.TheVariants as line
use Rattle.idl_changes.proofs.StepLemmas.{all-told-at, left-told-at, mark-there}
use Rattle.idl_changes.proofs.lists.push_new_items.Goals as goal

pub loop-place-preserved : goal.loop-place-preserved
loop-place-preserved g c =
    let lists = c.args.lists.now in
    let news = lists.after.now in
    let found = c.args.found.now in
    let i = c.loop-place.place in
    let item = c.index-after-place.result in
    let out = c.loop-place.out.items in
    let added = told (line.ItemNew lists.item) (item_part lists.item (g.T.Named.name_of item)) (turn.NewAt (i + 1)) in
    let known = c.is_marked.ensures
    ∙ ap (λ (marks : List Bool). unwrap_or (slice_get marks i) false) (c.deref.ensures.value ∙ c.in_ok-marks.ensures)
    ∙ mark-there found (length news) i c.loop-place-test.true
    in
    left-told-at (λ p. new_differences lists.item g.T.Named.name_of found p.0 p.1) news news refl i item out c.push_new_item.new.out.items _ c.loop-place-test.true c.index-after-place.is
    (c.in_ok-push_new_item.ensures ∙ ap (λ (b : Bool). out ++ (if b then [] else added)) known) c.loop-place.invariant

pub returns : goal.returns
returns g c =
    let lists = c.args.lists.now in
    all-told-at (λ p. new_differences lists.item g.T.Named.name_of c.args.found.now p.0 p.1) lists.after.now lists.after.now refl
    c.loop-place.place c.loop-place.out.items _ c.loop-place-test.false c.loop-place.invariant
