use Rattle.std.proofs.Common.{Bor, ◌∙◌, List, ap, ap₂, if◌then◌else◌, map}
use Rattle.idl_changes.specs.Changes.{changes}
use Rattle.idl_changes.specs.declared.change.Change.{Change}
use Rattle.idl_json.specs.Listed.{row_of}
use Rattle.idl_loader.specs.declared.status.Status.TheVariants.{Faulty, Sound}
use Rattle.idl_repo.specs.declared.details.row_tree.RowTree.{RowTree}
use Rattle.idl_tool.specs.Compared.{are_failing, change_lines}
use Rattle.idl_tool.proofs.diff.told_between.Goals as goal

pub lines_of-requires : goal.lines_of-requires
lines_of-requires c = record {
  was = ap (map (λ (t : Bor RowTree). t.now)) c.as_slice-3.ensures.value ∙ c.in_ok-was.ensures;
  is = ap (map (λ (t : Bor RowTree). t.now)) c.as_slice-4.ensures.value ∙ c.in_ok-is.ensures;
}

pub returns-clause-lines : goal.returns-clause-lines
returns-clause-lines c =
    let diff = c.args.diff.now in
    let old = map row_of c.args.old.now in
    let new = map row_of c.args.new.now in
    let was = ap (map (λ (t : Bor RowTree). t.now)) c.as_slice.ensures.value ∙ c.in_ok-was.ensures in
    let is = ap (map (λ (t : Bor RowTree). t.now)) c.as_slice-2.ensures.value ∙ c.in_ok-is.ensures in
    c.in_ok-text.ensures
    ∙ ap (change_lines diff.is_json diff.fails old new) (c.deref.ensures.value ∙ c.in_ok-told.ensures ∙ ap₂ (λ (a b : List RowTree). changes a b) was is)

pub returns-clause-status : goal.returns-clause-status
returns-clause-status c =
    let was = ap (map (λ (t : Bor RowTree). t.now)) c.as_slice.ensures.value ∙ c.in_ok-was.ensures in
    let is = ap (map (λ (t : Bor RowTree). t.now)) c.as_slice-2.ensures.value ∙ c.in_ok-is.ensures in
    c.ending_by-status.ensures
    ∙ ap (λ (told : List Change). if are_failing c.args.diff.now.fails told then Faulty else Sound)
    (c.deref-2.ensures.value ∙ c.in_ok-told.ensures ∙ ap₂ (λ (a b : List RowTree). changes a b) was is)
