use Rattle.std.proofs.Common.{map, refl}
use Rattle.idl_inputs.specs.Batch.{edit_of}
use Rattle.idl_server.specs.Files.{StaysCompiled}
use Rattle.idl_server.proofs.WorkspaceLemmas.{all-passed-over, on_ok, put-loaded, put-passed}
use Rattle.idl_server.proofs.workspace.Workspace.put_all.Goals as goal

pub returns-in-Ok : goal.returns-in-Ok
returns-in-Ok c = λ told are.
    on_ok c.keep_all.result (put-loaded told (map edit_of c.args.edits.items) c.args.self.now c.batch.new.self (record (record c.args.self.now { session = c.batch.new.self }) { touched = c.keep_all.new.kept }) are c.in-Ok.ensures.project (record { encoding = refl; folders = refl; session = refl; documents = refl; tried = refl; unread = refl }))

pub returns-in_ok-pass_over-in-Some : goal.returns-in_ok-pass_over-in-Some
returns-in_ok-pass_over-in-Some c = λ told are.
    let put = record c.args.self.now { session = c.batch.new.self } in
    let passed = record put { tried = c.pass_over.new.tried; unread = c.pass_over.new.unread } in
    let same : StaysCompiled put passed = record { encoding = refl; folders = refl; session = refl; documents = refl } in
    on_ok c.push_refused.result
    (put-passed told c.args.self.now c.batch.new.self passed (record passed { refused = c.push_refused.new.refused }) c.in-Err.ensures.unchanged same
    (all-passed-over told c.in-Some.name.now put passed same c.in_ok-pass_over-in-Some.ensures.unread c.in_ok-pass_over-in-Some.ensures.tried) (record { encoding = refl; folders = refl; session = refl; documents = refl; tried = refl; unread = refl }))
