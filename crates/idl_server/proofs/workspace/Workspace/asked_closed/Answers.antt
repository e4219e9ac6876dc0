use Rattle.std.proofs.Common.{◌≡◌, ◌∙◌, ◌<◌, ◌≤◌, ℕ, All, List, None, ap, get_or, length, subst, sym, take}
use Rattle.std.proofs.lemmas.List.{take_all}
use Rattle.std.proofs.lemmas.List.Elements.{All-nil, All-same, All-weaker}
use Rattle.std.specs.Map.{lookup}
use Rattle.std.specs.Str.{bytes_eq}
use Rattle.idl_loader.proofs.ListLemmas.{All-take_more}
use Rattle.idl_inputs.specs.Asked.{asked_of}
use Rattle.idl_server.specs.Files.{IsAmong}
use Rattle.idl_server.proofs.workspace.Workspace.asked_closed.Goals as goal

pub roots-init : goal.roots-init
roots-init c =
    let w = c.args.self.now in
    let P : List ℕ → Type 0 = λ name. lookup (bytes_eq name) w.documents.entries ≡ None in
    record {
      closed = subst (λ (names : List (List ℕ)). All P names) (sym c.new-names.ensures.empty) (All-nil P);
      all = All-nil (λ root. All (IsAmong c.new-names.result.keys w) (asked_of w.session.project root));
    }

-- what one root more asks for
pub roots-preserved : goal.roots-preserved
roots-preserved c =
    let w = c.args.self.now in
    let project = w.session.project in
    let names = c.roots.names.keys in
    let new = c.add_closed.new.names.keys in
    let i = c.roots.root-index in
    let root = c.root-item.result in
    let same : c.deref-root-items.result.now ≡ project.roots = c.deref-root-items.ensures.value ∙ c.in_ok-roots.ensures in
    record {
      closed = c.in_ok-add_closed.ensures.closed c.roots.invariant.closed;
      all =
          All-take_more (λ r. All (IsAmong new w) (asked_of project r)) project.roots i root (subst (λ (rs : List (List ℕ)). i < length rs) same c.roots-test.true)
          (subst (λ (rs : List (List ℕ)). root ≡ get_or rs i root) same c.root-item.is)
          (All-weaker (λ r. All (IsAmong names w) (asked_of project r)) (λ r. All (IsAmong new w) (asked_of project r))
          (λ r all. All-weaker (IsAmong names w) (IsAmong new w) c.in_ok-add_closed.ensures.kept (asked_of project r) all) (take i project.roots) c.roots.invariant.all)
          (subst (λ (asked : List (List ℕ)). All (IsAmong new w) asked) (c.deref.ensures.value ∙ c.in_ok-asked.ensures ∙ ap (asked_of project) c.as_bytes.ensures.bytes) c.in_ok-add_closed.ensures.all);
    }

pub returns-clause-all : goal.returns-clause-all
returns-clause-all c =
    let w = c.args.self.now in
    let project = w.session.project in
    let i = c.roots.root-index in
    let same : c.deref-root-items.result.now ≡ project.roots = c.deref-root-items.ensures.value ∙ c.in_ok-roots.ensures in
    All-same (λ r. All (IsAmong c.roots.names.keys w) (asked_of project r)) project.roots (take i project.roots)
    (sym (take_all i project.roots (subst (λ (rs : List (List ℕ)). length rs ≤ i) same c.roots-test.false))) c.roots.invariant.all
