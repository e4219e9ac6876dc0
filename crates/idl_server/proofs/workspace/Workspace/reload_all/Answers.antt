use Rattle.std.proofs.Common.{◌≡◌, ◌∙◌, ℕ, All, List, None, ap, map, refl, subst, sym}
use Rattle.std.proofs.lemmas.List.{map-append}
use Rattle.std.proofs.lemmas.List.Elements.{All-get_or, All-push}
use Rattle.std.proofs.lemmas.Result.{on_ok_weaker}
use Rattle.std.specs.Map.{lookup}
use Rattle.std.specs.Result.{OnOk}
use Rattle.std.specs.Str.{bytes_eq}
use Rattle.idl_inputs.specs.Batch.{edit_of}
use Rattle.idl_inputs.specs.Edits.{Edit}
use Rattle.idl_loader.specs.Holding.{Holding}
use Rattle.idl_server.specs.Files.{AreFiled, told_by}
use Rattle.idl_server.specs.Loading.{IsLoadedEdit, StaysOpen}
use Rattle.idl_editor.specs.declared.documents.document.Document.{Document}
use Rattle.idl_server.proofs.WorkspaceLemmas.{all-stay, compiled-both, on_ok, open-both, open-compiled, put-loaded, session-open, session-same, some_of}
use Rattle.idl_server.proofs.workspace.Workspace.reload_all.Goals as goal

pub disk_edit-requires : goal.disk_edit-requires
disk_edit-requires g c =
    let documents = c.args.self.now.documents.entries in
    let name = c.name-item.result in
    let same : c.names.self.documents.entries ≡ documents = λ i. (c.names.invariant.same.documents i).entries in
    subst (λ (ds : List (List ℕ × Document)). lookup (bytes_eq name) ds ≡ None) (sym same)
    (subst (λ (n : List ℕ). lookup (bytes_eq n) documents ≡ None) (sym c.name-item.is)
    (All-get_or (λ n. lookup (bytes_eq n) documents ≡ None) c.args.names.now c.names.name-index name c.names-test.true c.requires.closed))

pub reload_each-requires : goal.reload_each-requires
reload_each-requires g c =
    let same : c.names.self.documents.entries ≡ c.args.self.now.documents.entries = λ i. (c.names.invariant.same.documents i).entries in
    subst (λ (ds : List (List ℕ × Document)). All (λ name. lookup (bytes_eq name) ds ≡ None) c.args.names.now) (sym same) c.requires.closed

-- a file of which nothing is to be done
pub names-preserved-in_default : goal.names-preserved-in_default
names-preserved-in_default g c =
    let told = g.L.PathLoader.told_of in
    let old = c.args.self.now in
    let start = c.names.self in
    let now = c.disk_edit.new.self in
    let before = c.names.invariant in
    let same : told_by start.folders (told c.names.loader) ≡ told_by old.folders (told c.args.loader.now) = λ i. told_by (before.same.folders i) (before.stays i) in
    record {
      same = compiled-both old start now before.same c.disk_edit.ensures.same;
      filed = λ are.
          subst (λ (t : List ℕ → Holding). AreFiled t now) same
          (c.in_ok-edit.ensures.filed (subst (λ (t : List ℕ → Holding). AreFiled t start) (sym same) (before.filed are)));
      edits = before.edits;
      stays = c.disk_edit.ensures.stays ∙ before.stays;
    }

-- one edit more
pub names-preserved : goal.names-preserved
names-preserved g c =
    let told = g.L.PathLoader.told_of in
    let old = c.args.self.now in
    let start = c.names.self in
    let now = c.disk_edit.new.self in
    let before = c.names.invariant in
    let all = told_by old.folders (told c.args.loader.now) in
    let same : told_by start.folders (told c.names.loader) ≡ all = λ i. told_by (before.same.folders i) (before.stays i) in
    let documents = old.documents.entries in
    record {
      same = compiled-both old start now before.same c.disk_edit.ensures.same;
      filed = λ are.
          subst (λ (t : List ℕ → Holding). AreFiled t now) same
          (c.in_ok-edit.ensures.filed (subst (λ (t : List ℕ → Holding). AreFiled t start) (sym same) (before.filed are)));
      edits =
          subst (λ (es : List Edit). All (IsLoadedEdit all documents) es) (sym (ap (map edit_of) c.in_ok-push.ensures.items ∙ map-append edit_of c.names.edits.items _))
          (All-push (IsLoadedEdit all documents) (map edit_of c.names.edits.items) _ before.edits
          (subst (λ (t : List ℕ → Holding). IsLoadedEdit t documents (edit_of c.in-Some.edit)) same
          (subst (λ (ds : List (List ℕ × Document)). IsLoadedEdit (told_by start.folders (told c.names.loader)) ds (edit_of c.in-Some.edit)) (λ i. (before.same.documents i).entries)
          (some_of c.in_ok-edit.field-0 c.in-Some.edit (λ edit. IsLoadedEdit (told_by start.folders (told c.names.loader)) start.documents.entries (edit_of edit)) c.in-Some.is c.in_ok-edit.ensures.edit))));
      stays = c.disk_edit.ensures.stays ∙ before.stays;
    }

pub returns-in-Ok-clause-stays_open : goal.returns-in-Ok-clause-stays_open
returns-in-Ok-clause-stays_open g c =
    let old = c.args.self.now in
    let start = c.names.self in
    let before = c.names.invariant in
    let new = (record (record start { session = c.batch.new.self }) { touched = c.keep_all.new.kept }) in
    let all = told_by old.folders (g.L.PathLoader.told_of c.args.loader.now) in
    let edits = map edit_of c.names.edits.items in
    let are : All (IsLoadedEdit all start.documents.entries) edits =
    subst (λ (ds : List (List ℕ × Document)). All (IsLoadedEdit all ds) edits) (λ i. (sym before.same.documents i).entries) before.edits in
    on_ok c.keep_all.result
    (open-both old start new (open-compiled old start before.same) (put-loaded all edits start c.batch.new.self new are c.in-Ok.ensures.project (record { encoding = refl; folders = refl; session = refl; documents = refl; tried = refl; unread = refl })).0)

pub returns-in-Ok-clause-filed : goal.returns-in-Ok-clause-filed
returns-in-Ok-clause-filed g c = λ filed.
    let old = c.args.self.now in
    let start = c.names.self in
    let before = c.names.invariant in
    let new = (record (record start { session = c.batch.new.self }) { touched = c.keep_all.new.kept }) in
    let all = told_by old.folders (g.L.PathLoader.told_of c.args.loader.now) in
    let edits = map edit_of c.names.edits.items in
    let are : All (IsLoadedEdit all start.documents.entries) edits =
    subst (λ (ds : List (List ℕ × Document)). All (IsLoadedEdit all ds) edits) (λ i. (sym before.same.documents i).entries) before.edits in
    on_ok c.keep_all.result ((put-loaded all edits start c.batch.new.self new are c.in-Ok.ensures.project (record { encoding = refl; folders = refl; session = refl; documents = refl; tried = refl; unread = refl })).1 (before.filed filed))

pub returns-in-Err-clause-stays_open : goal.returns-in-Err-clause-stays_open
returns-in-Err-clause-stays_open g c =
    let old = c.args.self.now in
    let start = c.names.self in
    let put = record start { session = c.batch.new.self } in
    let new = c.reload_each.new.self in
    on_ok_weaker c.reload_each.result
    (λ (s : StaysOpen put new).
    open-both old put new
    (open-both old start put (open-compiled old start c.names.invariant.same) (session-open start put.session c.in-Err.ensures.unchanged)) s)
    c.reload_each.ensures.stays_open

pub returns-in-Err-clause-filed : goal.returns-in-Err-clause-filed
returns-in-Err-clause-filed g c = λ filed.
    let told = g.L.PathLoader.told_of in
    let old = c.args.self.now in
    let start = c.names.self in
    let before = c.names.invariant in
    let put = record start { session = c.batch.new.self } in
    let new = c.reload_each.new.self in
    let all = told_by old.folders (told c.args.loader.now) in
    let same : told_by start.folders (told c.names.loader) ≡ all = λ i. told_by (before.same.folders i) (before.stays i) in
    subst (λ (t : List ℕ → Holding). OnOk c.reload_each.result (AreFiled t new)) same
    (c.reload_each.ensures.filed
    (all-stay (told_by start.folders (told c.names.loader)) start put (session-same start put.session c.in-Err.ensures.unchanged)
    (subst (λ (t : List ℕ → Holding). AreFiled t start) (sym same) (before.filed filed))))
