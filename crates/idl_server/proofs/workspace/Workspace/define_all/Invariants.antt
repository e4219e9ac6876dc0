use Rattle.idl_server.specs.Server.{OnlySets}
use Rattle.idl_server.proofs.workspace.Workspace.define_all.Given as goal

abbrev pub invariant-words : goal.invariant-words
invariant-words l = OnlySets l.fn.self l.self
