use Rattle.std.proofs.Common.{◌≡◌, drop}
use Rattle.std.specs.List.{list_all}
use Rattle.idl_editor.specs.uris.Folders.{are_told_apart}
use Rattle.idl_editor.proofs.uris.folders.Folders.may_be_added.Given as goal

abbrev pub invariant-loop-folder : goal.invariant-loop-folder
invariant-loop-folder l = list_all (λ f. are_told_apart f.front l.front) l.self ≡ list_all (λ f. are_told_apart f.front l.front) (drop l.folder-index l.self)
