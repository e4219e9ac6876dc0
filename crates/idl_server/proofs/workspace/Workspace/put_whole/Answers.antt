use Rattle.std.proofs.Common.{◌≡◌, ◌∙◌, ℕ, List, Ok, Some, ap, refl, subst, sym}
use Rattle.idl_source.specs.texts.Cut.{cut_lines}
use Rattle.idl_inputs.specs.Edits.{Put, after}
use Rattle.idl_server.proofs.FileLemmas.{put-alone, put-lines}
use Rattle.idl_server.proofs.WorkspaceLemmas.{beside-both, beside-edited, beside-kept, filed-kept, filed-open, on_ok}
use Rattle.idl_server.proofs.workspace.Workspace.put_whole.Goals as goal

pub returns-in-Ok-clause-beside : goal.returns-in-Ok-clause-beside
returns-in-Ok-clause-beside c =
    let name = c.args.name.now in
    let old = c.args.self.now in
    let put = record old { session = c.put.new.self; documents = c.set_behind.new.documents } in
    let made = subst (λ (n : List ℕ). after old.session.project (Put n c.in_ok-lines.lines.items) ≡ Ok put.session.project) c.as_bytes.ensures.bytes c.in-Ok.ensures.project in
    on_ok c.keep_all.result
    (beside-both name old put (record put { touched = c.keep_all.new.kept })
    (beside-edited name old put refl refl (put-alone name c.in_ok-lines.lines.items old.session.project put.session.project made) c.set_behind.ensures.beside refl refl)
    (beside-kept name put (record put { touched = c.keep_all.new.kept }) (record { encoding = refl; folders = refl; session = refl; documents = refl; tried = refl; unread = refl })))

pub returns-in-Ok-clause-filed : goal.returns-in-Ok-clause-filed
returns-in-Ok-clause-filed c = λ some.
    let name = c.args.name.now in
    let old = c.args.self.now in
    let put = record old { session = c.put.new.self; documents = c.set_behind.new.documents } in
    let made = subst (λ (n : List ℕ). after old.session.project (Put n c.in_ok-lines.lines.items) ≡ Ok put.session.project) c.as_bytes.ensures.bytes c.in-Ok.ensures.project in
    let lines : c.in_ok-lines.lines.items ≡ cut_lines c.in-Some.document.now.text.items = c.in_ok-lines.ensures ∙ ap cut_lines c.deref.ensures.value in
    on_ok c.keep_all.result (λ told.
    filed-kept told name put (record put { touched = c.keep_all.new.kept }) (record { encoding = refl; folders = refl; session = refl; documents = refl; tried = refl; unread = refl })
    (filed-open told put name _ (c.set_behind.ensures.there c.in-Some.document.now (sym c.in-Some.ensures.value))
    (λ now. put-lines name c.in_ok-lines.lines.items old.session.project put.session.project made ∙ ap (λ (l : List (List ℕ)). Some l) lines)))
