use Rattle.std.proofs.Common.{◌≡◌}
use Rattle.std.proofs.lemmas.Result.{on_ok_weaker}
use Rattle.idl_server.proofs.HeldLemmas.{held-same}
use Rattle.idl_server.proofs.workspace.Workspace.take_told.Goals as goal

pub returns-in-DidSave-clause-held : goal.returns-in-DidSave-clause-held
returns-in-DidSave-clause-held g c =
    on_ok_weaker c.take_saved.result
    (λ (same : c.take_saved.new.self.documents ≡ c.args.self.now.documents). held-same c.args.self.now.session.project _ _ (λ i. (same i).entries)) c.take_saved.ensures.documents

pub returns-in-DidChangeWatchedFiles-clause-held : goal.returns-in-DidChangeWatchedFiles-clause-held
returns-in-DidChangeWatchedFiles-clause-held g c =
    on_ok_weaker c.take_watched.result
    (λ (same : c.take_watched.new.self.documents ≡ c.args.self.now.documents). held-same c.args.self.now.session.project _ _ (λ i. (same i).entries)) c.take_watched.ensures.documents
