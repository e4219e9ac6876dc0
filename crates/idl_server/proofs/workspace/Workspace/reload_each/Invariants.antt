use Rattle.std.proofs.Common.{◌≡◌}
use Rattle.idl_server.specs.Files.{AreFiled, told_by}
use Rattle.idl_server.specs.Loading.{StaysOpen}
use Rattle.idl_server.proofs.workspace.Workspace.reload_each.Given as goal

abbrev pub invariant-names : goal.invariant-names
invariant-names g l = record {
  same : StaysOpen l.fn.self l.self;
  filed : AreFiled (told_by l.fn.self.folders (g.L.PathLoader.told_of l.fn.loader)) l.fn.self
      → AreFiled (told_by l.fn.self.folders (g.L.PathLoader.told_of l.fn.loader)) l.self;
  stays : g.L.PathLoader.told_of l.loader ≡ g.L.PathLoader.told_of l.fn.loader;
}
