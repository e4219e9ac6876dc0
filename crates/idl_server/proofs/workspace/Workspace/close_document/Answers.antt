use Rattle.std.proofs.Common.{◌∙◌, List, refl, sym, subst, true≢false}
use Rattle.idl_editor.specs.uris.Folders.{FolderNamed}
use Rattle.idl_server.specs.Files.{IsClosed, told_by}
use Rattle.idl_server.proofs.FileLemmas.{lost, same-self}
use Rattle.idl_server.proofs.WorkspaceLemmas.{beside-both, beside-edited, beside-filed, text-none}
use Rattle.idl_server.proofs.workspace.Workspace.close_document.Goals as goal

pub returns-clause-beside : goal.returns-clause-beside
returns-clause-beside g c =
    let name = c.args.name.now in
    let old = c.args.self.now in
    let behind = record old { documents = c.set_behind.new.documents } in
    let dropped = c.uproot.new.self in
    let loaded = c.reload.new.self in
    let closed = record loaded { documents = c.shift_remove.new.self } in
    beside-both name old behind closed (beside-edited name old behind refl refl (same-self name old.session.project) c.set_behind.ensures.beside refl refl)
    (beside-both name behind dropped closed (beside-filed name behind dropped c.uproot.ensures.filed c.in_ok-uproot.ensures.roots)
    (beside-both name dropped loaded closed c.in_ok-reload.ensures.beside
    (beside-edited name loaded closed refl refl (same-self name loaded.session.project) (λ other apart. c.shift_remove.ensures.updates.2 other apart) refl refl)))

pub returns-clause-filed : goal.returns-clause-filed
returns-clause-filed g c = λ was.
    let told = g.L.PathLoader.told_of c.args.loader.now in
    let is =
    subst (λ (f : List FolderNamed). IsClosed (told_by f told) c.reload.new.self c.args.name.now) c.uproot.ensures.filed.folders c.in_ok-reload.ensures.closed
    in
    record {
      opened = λ document there now. absurd (lost document (sym c.shift_remove.ensures.updates.1 ∙ there));
      closed = λ none. record { loaded = is.loaded; missing = is.missing };
    }

pub returns-clause-text : goal.returns-clause-text
returns-clause-text g c = text-none _ c.args.name.now c.shift_remove.ensures.updates.1

pub returns-clause-rooted : goal.returns-clause-rooted
returns-clause-rooted g c = λ was root. absurd (true≢false (sym (c.in_ok-reload.ensures.beside.roots c.args.name.now root) ∙ c.in_ok-uproot.ensures.gone))
