use Rattle.std.proofs.Common.{◌≡◌, ◌∙◌, ℕ, All, List, None, ap, map, refl, subst, sym}
use Rattle.std.proofs.lemmas.List.{map-append}
use Rattle.std.proofs.lemmas.List.Elements.{All-get_or, All-push}
use Rattle.std.specs.Map.{lookup}
use Rattle.std.specs.Str.{bytes_eq}
use Rattle.idl_inputs.specs.Batch.{edit_of}
use Rattle.idl_inputs.specs.Edits.{Edit}
use Rattle.idl_loader.specs.Holding.{Holding}
use Rattle.idl_loader.specs.Holding.{IsFileOf}
use Rattle.idl_server.specs.Files.{AreFiled, told_by}
use Rattle.idl_server.specs.Loading.{IsLoadedEdit}
use Rattle.idl_editor.specs.declared.documents.document.Document.{Document}
use Rattle.idl_server.proofs.WorkspaceLemmas.{compiled-both, open-both, open-compiled, put-edit, set-same, some_of}
use Rattle.idl_server.proofs.workspace.Workspace.load_absent.Goals as goal

-- one file more
pub names-preserved : goal.names-preserved
names-preserved g c =
    let told = g.L.PathLoader.told_of in
    let old = c.args.self.now in
    let start = c.names.self in
    let now = c.lines_of.new.self in
    let before = c.names.invariant in
    let all = told_by old.folders (told c.args.loader.now) in
    let same : told_by start.folders (told c.names.loader) ≡ all = λ i. told_by (before.same.folders i) (before.stays i) in
    let name = c.name-item.result in
    let closed : lookup (bytes_eq name) old.documents.entries ≡ None =
    subst (λ (n : List ℕ). lookup (bytes_eq n) old.documents.entries ≡ None) (sym c.name-item.is)
    (All-get_or (λ n. lookup (bytes_eq n) old.documents.entries ≡ None) c.as_slice-names.result.now c.names.name-index name c.names-test.true
    (subst (λ (ns : List (List ℕ)). All (λ n. lookup (bytes_eq n) old.documents.entries ≡ None) ns) (sym c.as_slice-names.ensures.keys) c.in_ok-untried.ensures.closed))
    in
    record {
      same = compiled-both old start now before.same c.lines_of.ensures.same;
      filed = λ are.
          subst (λ (t : List ℕ → Holding). AreFiled t now) same
          (c.in_ok-lines.ensures.filed (subst (λ (t : List ℕ → Holding). AreFiled t start) (sym same) (before.filed are)));
      edits =
          subst (λ (es : List Edit). All (IsLoadedEdit all old.documents.entries) es)
          (sym (ap (map edit_of) c.in_ok-push-2.ensures.items ∙ map-append edit_of c.names.edits.items _))
          (All-push (IsLoadedEdit all old.documents.entries) (map edit_of c.names.edits.items) _ before.edits
          (put-edit all old.documents.entries name c.as_bytes.result.now c.in-Some.lines.items c.as_bytes.ensures.bytes
          (subst (λ (t : List ℕ → Holding). IsFileOf t name c.in-Some.lines.items) same
          (some_of c.in_ok-lines.field-0 c.in-Some.lines (λ lines. IsFileOf (told_by start.folders (told c.names.loader)) name lines.items) c.in-Some.is c.in_ok-lines.ensures.lines)) closed));
      stays = c.lines_of.ensures.stays ∙ before.stays;
    }

-- a file that isn't there
pub names-preserved-in_default : goal.names-preserved-in_default
names-preserved-in_default g c =
    let told = g.L.PathLoader.told_of in
    let old = c.args.self.now in
    let start = c.names.self in
    let now = c.lines_of.new.self in
    let before = c.names.invariant in
    let same : told_by start.folders (told c.names.loader) ≡ told_by old.folders (told c.args.loader.now) = λ i. told_by (before.same.folders i) (before.stays i) in
    record {
      same = compiled-both old start now before.same c.lines_of.ensures.same;
      filed = λ are.
          subst (λ (t : List ℕ → Holding). AreFiled t now) same
          (c.in_ok-lines.ensures.filed (subst (λ (t : List ℕ → Holding). AreFiled t start) (sym same) (before.filed are)));
      edits = before.edits;
      stays = c.lines_of.ensures.stays ∙ before.stays;
    }

pub returns-then-is_empty-clause-stays_open : goal.returns-then-is_empty-clause-stays_open
returns-then-is_empty-clause-stays_open g c = record { set = set-same c.args.self.now; documents = refl; roots = λ name root. root }

pub returns-clause-stays_open : goal.returns-clause-stays_open
returns-clause-stays_open g c =
    let old = c.args.self.now in
    let start = c.names.self in
    let before = c.names.invariant in
    let all = told_by old.folders (g.L.PathLoader.told_of c.args.loader.now) in
    let are : All (IsLoadedEdit all start.documents.entries) (map edit_of c.names.edits.items) =
    subst (λ (ds : List (List ℕ × Document)). All (IsLoadedEdit all ds) (map edit_of c.names.edits.items)) (λ i. (sym before.same.documents i).entries) before.edits in
    open-both old start c.put_all.new.self (open-compiled old start before.same) (c.in_ok-put_all.ensures all are).0

pub returns-clause-filed : goal.returns-clause-filed
returns-clause-filed g c = λ filed.
    let old = c.args.self.now in
    let start = c.names.self in
    let before = c.names.invariant in
    let all = told_by old.folders (g.L.PathLoader.told_of c.args.loader.now) in
    let are : All (IsLoadedEdit all start.documents.entries) (map edit_of c.names.edits.items) =
    subst (λ (ds : List (List ℕ × Document)). All (IsLoadedEdit all ds) (map edit_of c.names.edits.items)) (λ i. (sym before.same.documents i).entries) before.edits in
    (c.in_ok-put_all.ensures all are).1 (before.filed filed)
