use Rattle.std.proofs.Common.{◌∙◌, ◌++◌, ◌∷◌, [], ℕ, Bool, List, Option, ap, ap₂, if◌then◌else◌, is_ok, map, refl, sym}
use Rattle.std.proofs.lemmas.Result.{on_ok_weaker}
use Rattle.idl_changes.specs.Changes.{entry_in, row_text}
use Rattle.idl_json.specs.Listed.{NamePlace, row_of}
use Rattle.idl_loader.specs.Lines.{whole_line}
use Rattle.idl_repo.specs.declared.details.row_tree.RowTree.{RowTree}
use Rattle.idl_tool.specs.Compared.{change_line, change_object, grade, object_line, place_before, shown_place, told_line, trees_of}
use Rattle.idl_tool.proofs.DiffLemmas.{row-next}
use Rattle.idl_tool.proofs.ShownLemmas.{grown-on_ok}
use Rattle.idl_tool.proofs.diff.push_line.Goals as goal

pub returns-then-diff : goal.returns-then-diff
returns-then-diff c =
    let diff = c.args.diff.now in
    let old = map row_of c.args.sides.old.now in
    let new = map row_of c.args.sides.new.now in
    let change = c.args.change.now in
    let text = c.args.text.now.items in
    let entry = c.entry_of-entry.ensures ∙ ap₂ (λ (a b : List RowTree). entry_in a b change) c.requires.was c.requires.is in
    let line = ap₂ (λ (e : Option RowTree) (p : Option NamePlace). object_line e p change) entry c.shown_place.ensures
    ∙ ap (λ (b : Bool). if b then change_object old new change else whole_line (change_line diff.fails old new change)) (sym c.if-diff.true)
    in
    on_ok_weaker c.push_object.result (λ put. put ∙ ap (λ (t : List ℕ). text ++ t) line) c.push_object.ensures

pub returns : goal.returns
returns c =
    let diff = c.args.diff.now in
    let old = map row_of c.args.sides.old.now in
    let new = map row_of c.args.sides.new.now in
    let change = c.args.change.now in
    let text = c.args.text.now.items in
    let head = c.push_head.new.text.items in
    let row = c.push_change.new.text.items in
    let words = row_text (trees_of old) (trees_of new) change in
    let ended = row-next text head row (row ++ 10 ∷ []) (place_before (shown_place old new change)) (grade diff.fails change.difference.weights) words c.in_ok-push_head.ensures
    (c.in_ok-push_change.ensures ∙ ap (λ (t : List ℕ). head ++ t) (ap₂ (λ (a b : List RowTree). row_text a b change) c.requires.was c.requires.is)) refl
    in
    let whole = ended ∙ ap (λ (b : Bool). text ++ (if b then change_object old new change else whole_line (change_line diff.fails old new change))) (sym c.if-diff.false) in
    let pushed = c.extend_from_slice.result in
    grown-on_ok (text ++ told_line diff.is_json diff.fails old new change) row pushed (c.extend_from_slice.ensures.items ∙ ap (λ t. if is_ok pushed then t else row) whole)
