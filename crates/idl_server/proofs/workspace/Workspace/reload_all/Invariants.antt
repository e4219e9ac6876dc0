use Rattle.std.proofs.Common.{◌≡◌, All, map}
use Rattle.idl_inputs.specs.Batch.{edit_of}
use Rattle.idl_server.specs.Files.{AreFiled, StaysCompiled, told_by}
use Rattle.idl_server.specs.Loading.{IsLoadedEdit}
use Rattle.idl_server.proofs.workspace.Workspace.reload_all.Given as goal

abbrev pub invariant-names : goal.invariant-names
invariant-names g l = record {
  same : StaysCompiled l.fn.self l.self;
  filed : AreFiled (told_by l.fn.self.folders (g.L.PathLoader.told_of l.fn.loader)) l.fn.self
      → AreFiled (told_by l.fn.self.folders (g.L.PathLoader.told_of l.fn.loader)) l.self;
  edits : All (IsLoadedEdit (told_by l.fn.self.folders (g.L.PathLoader.told_of l.fn.loader)) l.fn.self.documents.entries) (map edit_of l.edits.items);
  stays : g.L.PathLoader.told_of l.loader ≡ g.L.PathLoader.told_of l.fn.loader;
}
