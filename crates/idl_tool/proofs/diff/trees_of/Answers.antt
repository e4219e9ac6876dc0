use Rattle.std.proofs.Common.{Bor, ◌∙◌, ◌++◌, ◌∷◌, [], List, ap, map, sym, take}
use Rattle.std.proofs.lemmas.List.{map-append, take_all, take_more}
use Rattle.idl_json.specs.Listed.{LocatedRow, row_of}
use Rattle.idl_json.specs.declared.listed.ListedRow.{ListedRow}
use Rattle.idl_repo.specs.declared.details.row_tree.RowTree.{RowTree}
use Rattle.idl_tool.specs.Compared.{trees_of}
use Rattle.idl_tool.proofs.diff.trees_of.Goals as goal

pub rows-preserved : goal.rows-preserved
rows-preserved c =
    let rows = c.args.rows.now in
    let row = c.row-item.result in
    let now = λ (t : Bor RowTree). t.now in
    ap (map now) c.in_ok-push.ensures.items ∙ map-append now c.rows.trees.items _
    ∙ ap (λ (ts : List RowTree). ts ++ row.tree.now ∷ []) c.rows.invariant
    ∙ sym (ap (λ (rs : List ListedRow). trees_of (map row_of rs)) (take_more rows c.rows.row-index row c.rows-test.true ∙ ap (λ (r : ListedRow). take c.rows.row-index rows ++ r ∷ []) (sym c.row-item.is))
    ∙ ap trees_of (map-append row_of (take c.rows.row-index rows) (row ∷ []))
    ∙ map-append (λ (r : LocatedRow). r.tree) (map row_of (take c.rows.row-index rows)) (row_of row ∷ []))

pub returns : goal.returns
returns c = c.rows.invariant ∙ ap (λ (rs : List ListedRow). trees_of (map row_of rs)) (take_all c.rows.row-index c.args.rows.now c.rows-test.false)
