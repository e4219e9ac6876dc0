use Rattle.std.proofs.Common.{◌≡◌, ◌∙◌, ℕ, List, None, subst, sym}
use Rattle.std.proofs.lemmas.List.Elements.{All-get_or}
use Rattle.std.specs.Map.{lookup}
use Rattle.std.specs.Str.{bytes_eq}
use Rattle.idl_loader.specs.Holding.{Holding}
use Rattle.idl_server.specs.Files.{AreFiled, told_by}
use Rattle.idl_server.proofs.WorkspaceLemmas.{open-both, reloaded-one}
use Rattle.idl_server.proofs.workspace.Workspace.reload_each.Goals as goal

-- one file more
pub names-preserved : goal.names-preserved
names-preserved g c =
    let told = g.L.PathLoader.told_of in
    let old = c.args.self.now in
    let start = c.names.self in
    let now = c.reload.new.self in
    let before = c.names.invariant in
    let same : told_by start.folders (told c.names.loader) ≡ told_by old.folders (told c.args.loader.now) = λ i. told_by (before.same.set.folders i) (before.stays i) in
    let name = c.name-item.result in
    let closed : lookup (bytes_eq name) old.documents.entries ≡ None =
    subst (λ (n : List ℕ). lookup (bytes_eq n) old.documents.entries ≡ None) (sym c.name-item.is)
    (All-get_or (λ n. lookup (bytes_eq n) old.documents.entries ≡ None) c.args.names.now c.names.name-index name c.names-test.true c.requires)
    in
    record {
      same = open-both old start now before.same (record {
        set = c.in_ok-reload.ensures.beside.set;
        documents = c.in_ok-reload.ensures.documents;
        roots = c.in_ok-reload.ensures.beside.roots;
      });
      filed = λ are.
          subst (λ (t : List ℕ → Holding). AreFiled t now) same
          (reloaded-one (told_by start.folders (told c.names.loader)) name start now ((λ i. lookup (bytes_eq name) (before.same.documents i).entries) ∙ closed)
          c.in_ok-reload.ensures.beside c.in_ok-reload.ensures.documents c.in_ok-reload.ensures.closed
          (subst (λ (t : List ℕ → Holding). AreFiled t start) (sym same) (before.filed are)));
      stays = c.reload.ensures.stays ∙ before.stays;
    }
