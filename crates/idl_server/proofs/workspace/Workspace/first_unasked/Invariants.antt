use Rattle.idl_server.proofs.CoveredLemmas.{AreLeft}
use Rattle.idl_server.proofs.workspace.Workspace.first_unasked.Given as goal

abbrev pub invariant-roots : goal.invariant-roots
invariant-roots l = AreLeft l.self l.left.keys
