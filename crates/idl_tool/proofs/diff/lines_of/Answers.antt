use Rattle.std.proofs.Common.{◌∙◌, ◌++◌, [], ap, map}
use Rattle.idl_changes.specs.declared.change.Change.{Change}
use Rattle.idl_json.specs.Listed.{row_of}
use Rattle.idl_tool.specs.Compared.{told_line}
use Rattle.idl_tool.proofs.DepsLemmas.{pushed-all, pushed-next}
use Rattle.idl_tool.proofs.diff.lines_of.Goals as goal

pub lines-preserved : goal.lines-preserved
lines-preserved c =
    let line = told_line c.args.diff.now.is_json c.args.diff.now.fails (map row_of c.args.sides.old.now) (map row_of c.args.sides.new.now) in
    let change = c.change-item.result in
    pushed-next line c.args.told.now c.lines.change-index change [] c.lines.text.items c.push_line.new.text.items c.lines-test.true c.lines.invariant
    (c.in_ok-push_line.ensures ∙ ap (λ (ch : Change). c.lines.text.items ++ line ch) c.change-item.is)

pub returns : goal.returns
returns c =
    let line = told_line c.args.diff.now.is_json c.args.diff.now.fails (map row_of c.args.sides.old.now) (map row_of c.args.sides.new.now) in
    pushed-all line c.args.told.now c.lines.change-index [] c.lines.text.items c.lines-test.false c.lines.invariant
