use Rattle.std.proofs.Common.{◌≡◌, Some, map, take}
use Rattle.serde_json.specs.View.{items_view}
use Rattle.idl_editor.specs.documents.Documents.{change_told}
use Rattle.idl_editor.specs.documents.Notices.{all_changes}
use Rattle.idl_editor.proofs.documents.changes.changes_told.Given as goal

-- the changes of the values before
abbrev pub invariant-values : goal.invariant-values
invariant-values l = all_changes (items_view (take l.value-index l.values)) ≡ Some (map change_told l.changes.items)
