use Rattle.std.proofs.Common.{◌≡◌}
use Rattle.idl_server.specs.Files.{AreFiled, StaysSet, told_by}
use Rattle.idl_server.specs.Roots.{AreRooted}
use Rattle.idl_server.proofs.workspace.Workspace.settle.Given as goal

abbrev pub invariant-rounds : goal.invariant-rounds
invariant-rounds g l = record {
  set : StaysSet l.fn.self l.self;
  documents : l.self.documents ≡ l.fn.self.documents;
  filed : AreFiled (told_by l.fn.self.folders (g.L.PathLoader.told_of l.fn.loader)) l.fn.self
      → AreFiled (told_by l.fn.self.folders (g.L.PathLoader.told_of l.fn.loader)) l.self;
  rooted : AreRooted l.fn.self → AreRooted l.self;
  stays : g.L.PathLoader.told_of l.loader ≡ g.L.PathLoader.told_of l.fn.loader;
}
