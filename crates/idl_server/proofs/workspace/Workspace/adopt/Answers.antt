use Rattle.std.proofs.Common.{◌≡◌, ℕ, List, Ok, refl, subst}
use Rattle.idl_inputs.specs.Edits.{AddRoot, after}
use Rattle.idl_server.proofs.CoveredLemmas.{adds-none, rooted-added, rooted-fewer}
use Rattle.idl_server.proofs.FileLemmas.{add-inputs}
use Rattle.idl_server.proofs.WorkspaceLemmas.{on_ok, stays-kept}
use Rattle.idl_server.proofs.workspace.Workspace.adopt.Goals as goal

pub returns-in-Ok-clause-filed : goal.returns-in-Ok-clause-filed
returns-in-Ok-clause-filed c =
    let old = c.args.self.now in
    stays-kept old (record old { session = c.add_root.new.self }) (record (record old { session = c.add_root.new.self }) { touched = c.keep_all.new.kept })
    (record { encoding = refl; folders = refl; inputs = add-inputs c.as_bytes.result.now old.session.project c.add_root.new.self.project c.in-Ok.ensures.project; documents = refl; tried = refl; unread = refl })
    (record { encoding = refl; folders = refl; session = refl; documents = refl; tried = refl; unread = refl })

pub returns-in_ok-insert-in-Err-clause-filed : goal.returns-in_ok-insert-in-Err-clause-filed
returns-in_ok-insert-in-Err-clause-filed c =
    let old = c.args.self.now in
    stays-kept old (record old { session = c.add_root.new.self; turned_away = c.insert.new.self }) (record (record old { session = c.add_root.new.self; turned_away = c.insert.new.self }) { refused = c.push_refused.new.refused })
    (record { encoding = refl; folders = refl; inputs = λ i. (c.in-Err.ensures.unchanged i).project.inputs; documents = refl; tried = refl; unread = refl })
    (record { encoding = refl; folders = refl; session = refl; documents = refl; tried = refl; unread = refl })

pub returns-in-Ok-clause-rooted : goal.returns-in-Ok-clause-rooted
returns-in-Ok-clause-rooted c = λ opened are.
    let old = c.args.self.now in
    let mid = record old { session = c.add_root.new.self } in
    let new = (record (record old { session = c.add_root.new.self }) { touched = c.keep_all.new.kept }) in
    let made = subst (λ (n : List ℕ). after old.session.project (AddRoot n) ≡ Ok mid.session.project) c.as_bytes.ensures.bytes c.in-Ok.ensures.project in
    on_ok c.keep_all.result
    (rooted-fewer mid new (adds-none mid.session.project new.session.project refl) refl
    (rooted-added c.args.name.now old mid made refl opened are))

pub returns-in_ok-insert-in-Err-clause-rooted : goal.returns-in_ok-insert-in-Err-clause-rooted
returns-in_ok-insert-in-Err-clause-rooted c = λ opened are.
    let old = c.args.self.now in
    let new = (record (record old { session = c.add_root.new.self; turned_away = c.insert.new.self }) { refused = c.push_refused.new.refused }) in
    let same = c.in-Err.ensures.unchanged in
    on_ok c.push_refused.result
    (rooted-fewer old new (adds-none old.session.project new.session.project (λ i. (same i).project.roots)) refl are)
