use Rattle.std.proofs.Common.{refl}
use Rattle.idl_server.proofs.ServerLemmas.{sets-macro, sets-refused}
use Rattle.idl_server.proofs.workspace.Workspace.define.Goals as goal

pub returns-in-Ok : goal.returns-in-Ok
returns-in-Ok c = sets-macro _ _ c.args.self.now c.define.new.self _ c.in-Ok.ensures

pub returns-in-Err : goal.returns-in-Err
returns-in-Err c = sets-refused c.args.self.now c.define.new.self (record (record c.args.self.now { session = c.define.new.self }) { refused = c.push_refused-in-Err.new.refused }) c.in-Err.ensures.unchanged (record { encoding = refl; folders = refl; session = refl; documents = refl; tried = refl; unread = refl })
