use Rattle.idl_server.proofs.CoveredLemmas.{AreGathered}
use Rattle.idl_server.proofs.workspace.Workspace.waiting.Given as goal

abbrev pub invariant-documents : goal.invariant-documents
invariant-documents l = AreGathered l.self l.name-iterator l.names.keys
