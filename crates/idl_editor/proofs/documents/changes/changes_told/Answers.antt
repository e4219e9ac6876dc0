use Rattle.std.proofs.Common.{◌∙◌, Some, ap, map, option_and_then, sym}
use Rattle.std.proofs.lemmas.List.{map-append}
use Rattle.idl_editor.specs.documents.Documents.{change_told}
use Rattle.idl_editor.specs.documents.Notices.{all_changes}
use Rattle.idl_editor.proofs.ChangeLemmas.{values-lost, values-more}
use Rattle.idl_editor.proofs.documents.changes.changes_told.Goals as goal

-- one makes no sense
pub returns-in-None : goal.returns-in-None
returns-in-None c =
    sym (ap (option_and_then all_changes) (sym c.in-Some.ensures)
    ∙ values-lost c.in-Some.values.now c.values.value-index c.value-item.result c.values-test.true c.value-item.is (sym c.in-None.ensures))

pub values-preserved : goal.values-preserved
values-preserved c =
    values-more c.in-Some.values.now c.values.value-index c.value-item.result (map change_told c.values.changes.items) (change_told c.in-Some-change_of.change) c.values-test.true c.value-item.is
    c.values.invariant (sym c.in-Some-change_of.ensures)
    ∙ ap Some (sym (ap (map change_told) c.in_ok-push-in-Some-change_of.ensures.items ∙ map-append change_told c.values.changes.items _))
