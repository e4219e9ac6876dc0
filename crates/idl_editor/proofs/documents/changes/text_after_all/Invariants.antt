use Rattle.std.proofs.Common.{◌≡◌, map, take}
use Rattle.idl_editor.specs.documents.Documents.{change_told, text_after_all}
use Rattle.idl_editor.proofs.documents.changes.text_after_all.Given as goal

-- the text after the changes before
abbrev pub invariant-changes : goal.invariant-changes
invariant-changes l = record {
  text : l.text.items ≡ text_after_all l.encoding l.old (map change_told (take l.change-index l.changes));
}
