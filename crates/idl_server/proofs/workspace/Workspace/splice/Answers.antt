use Rattle.std.proofs.Common.{◌≡◌, ◌∙◌, ℕ, List, Ok, OnOk, Some, ap, refl, subst}
use Rattle.idl_inputs.specs.Edits.{Splice, after}
use Rattle.idl_project.specs.UpToDate.{State}
use Rattle.idl_server.specs.Documents.{OnlyRefusedIsBehind}
use Rattle.idl_server.specs.Files.{StaysBeside}
use Rattle.idl_server.proofs.FileLemmas.{splice-alone, splice-lines}
use Rattle.idl_server.proofs.WorkspaceLemmas.{beside-both, beside-edited, beside-kept, filed-kept, filed-open, on_ok}
use Rattle.idl_server.proofs.workspace.Workspace.splice.Goals as goal

pub returns-in-Ok-clause-beside : goal.returns-in-Ok-clause-beside
returns-in-Ok-clause-beside c =
    let name = c.args.name.now in
    let old = c.args.self.now in
    let splice = c.args.splice in
    let new = record old { session = c.splice.new.self; documents = c.set_behind.new.documents } in
    let made = subst (λ (n : List ℕ). after old.session.project (Splice n splice.span.from splice.span.del splice.lines.items) ≡ Ok new.session.project) c.as_bytes.ensures.bytes c.in-Ok.ensures.project in
    on_ok c.keep_all.result
    (beside-both name old new (record new { touched = c.keep_all.new.kept })
    (beside-edited name old new refl refl (splice-alone name splice.span.from splice.span.del splice.lines.items old.session.project new.session.project made) c.set_behind.ensures.beside refl refl)
    (beside-kept name new (record new { touched = c.keep_all.new.kept }) (record { encoding = refl; folders = refl; session = refl; documents = refl; tried = refl; unread = refl })))

pub returns-in-Ok-clause-filed : goal.returns-in-Ok-clause-filed
returns-in-Ok-clause-filed c = λ made_text.
    let name = c.args.name.now in
    let old = c.args.self.now in
    let splice = c.args.splice in
    let new = record old { session = c.splice.new.self; documents = c.set_behind.new.documents } in
    let made = subst (λ (n : List ℕ). after old.session.project (Splice n splice.span.from splice.span.del splice.lines.items) ≡ Ok new.session.project) c.as_bytes.ensures.bytes c.in-Ok.ensures.project in
    on_ok c.keep_all.result (λ told.
    filed-kept told name new (record new { touched = c.keep_all.new.kept }) (record { encoding = refl; folders = refl; session = refl; documents = refl; tried = refl; unread = refl })
    (filed-open told new name _ (c.set_behind.ensures.there made_text.document made_text.opened)
    (λ now.
    splice-lines name made_text.lines splice.span.from splice.span.del splice.lines.items old.session.project new.session.project made_text.there made
    ∙ ap (λ (l : List (List ℕ)). Some l) made_text.splices.gives)))

pub returns-in-Err-clause-beside : goal.returns-in-Err-clause-beside
returns-in-Err-clause-beside c =
    let old = c.args.self.now in
    subst (λ (s : State). OnOk c.put_whole.result (StaysBeside c.args.name.now (record old { session = s }) c.put_whole.new.self)) c.in-Err.ensures.unchanged c.put_whole.ensures.beside

pub returns-in-Err-clause-filed : goal.returns-in-Err-clause-filed
returns-in-Err-clause-filed c = λ made_text. c.put_whole.ensures.filed c.requires

pub returns-in-Err-clause-held : goal.returns-in-Err-clause-held
returns-in-Err-clause-held c =
    subst (λ (s : State). OnOk c.put_whole.result (OnlyRefusedIsBehind s.project c.args.name.now c.put_whole.new.self.documents.entries)) c.in-Err.ensures.unchanged c.put_whole.ensures.held
