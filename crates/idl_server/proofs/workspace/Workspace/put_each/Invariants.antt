use Rattle.std.proofs.Common.{ℕ, List, take}
use Rattle.idl_loader.specs.Holding.{Holding}
use Rattle.idl_server.specs.Files.{AreFiled}
use Rattle.idl_server.specs.Late.{ArePut}
use Rattle.idl_server.specs.Roots.{AreRooted}
use Rattle.idl_server.proofs.workspace.Workspace.put_each.Given as goal

-- those of the names before were put
abbrev pub invariant-names : goal.invariant-names
invariant-names l = record {
  put : ArePut (take l.name-index l.names) l.fn.self l.self;
  filed : (told : List ℕ → Holding) → AreFiled told l.fn.self → AreFiled told l.self;
  rooted : AreRooted l.fn.self → AreRooted l.self;
}
