use Rattle.std.proofs.Common.{◌≡◌, drop}
use Rattle.std.specs.List.{find}
use Rattle.idl_server.specs.Named.{asks_for}
use Rattle.idl_server.proofs.workspace.Workspace.root_with.Given as goal

-- none of those before asks for it
abbrev pub invariant-each : goal.invariant-each
invariant-each l = let p = asks_for l.self.session.project l.name in find p (drop l.index l.held) ≡ find p l.held
