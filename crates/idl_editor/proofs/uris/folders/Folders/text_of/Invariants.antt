use Rattle.std.proofs.Common.{◌≡◌, [], drop}
use Rattle.idl_editor.specs.uris.Folders.{name_among}
use Rattle.idl_editor.proofs.uris.folders.Folders.text_of.Given as goal

abbrev pub invariant-loop-folder : goal.invariant-loop-folder
invariant-loop-folder l = record {
  left : name_among l.self l.path ≡ name_among (drop l.folder-index l.self) l.path;
  none : l.name.items ≡ [];
}
