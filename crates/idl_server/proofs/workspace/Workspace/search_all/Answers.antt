use Rattle.std.proofs.Common.{refl}
use Rattle.idl_server.proofs.ServerLemmas.{sets-both, sets-directories, sets-refused}
use Rattle.idl_server.proofs.workspace.Workspace.search_all.Goals as goal

pub returns-in-Ok : goal.returns-in-Ok
returns-in-Ok c =
    let mid = record c.args.self.now { refused = c.directories_in.new.refused } in
    sets-both c.args.self.now mid _ (record { documents = refl; files = refl; roots = refl; tried = refl }) (sets-directories _ mid c.search.new.self _ c.in-Ok.ensures)

pub returns : goal.returns
returns c =
    let mid = record c.args.self.now { refused = c.directories_in.new.refused } in
    sets-both c.args.self.now mid _ (record { documents = refl; files = refl; roots = refl; tried = refl })
    (sets-refused mid c.search.new.self (record (record mid { session = c.search.new.self }) { refused = c.push_refused.new.refused }) c.in-Err.ensures.unchanged (record { encoding = refl; folders = refl; session = refl; documents = refl; tried = refl; unread = refl }))
