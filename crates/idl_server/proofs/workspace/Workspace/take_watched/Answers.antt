use Rattle.std.proofs.lemmas.Result.{on_ok_weaker}
use Rattle.idl_server.specs.Loading.{StaysOpen}
use Rattle.idl_server.proofs.CoveredLemmas.{rooted-fewer}
use Rattle.idl_server.proofs.workspace.Workspace.take_watched.Goals as goal

pub returns-clause-rooted : goal.returns-clause-rooted
returns-clause-rooted g c = λ are. on_ok_weaker c.reload_all.result (λ (stays : StaysOpen c.args.self.now c.reload_all.new.self). rooted-fewer c.args.self.now c.reload_all.new.self stays.roots stays.documents are) c.reload_all.ensures.stays_open
