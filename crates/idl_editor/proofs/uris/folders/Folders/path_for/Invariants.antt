use Rattle.std.proofs.Common.{◌≡◌, [], drop}
use Rattle.idl_editor.specs.uris.Folders.{path_among}
use Rattle.idl_editor.proofs.uris.folders.Folders.path_for.Given as goal

abbrev pub invariant-loop-folder : goal.invariant-loop-folder
invariant-loop-folder l = record {
  left : path_among l.self l.name ≡ path_among (drop l.folder-index l.self) l.name;
  none : l.path.items ≡ [];
}
