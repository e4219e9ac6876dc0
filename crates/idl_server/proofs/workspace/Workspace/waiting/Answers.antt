use Rattle.std.proofs.Common.{◌≡◌, ◌∙◌, ℕ, List, ap, cond, is_some, subst, sym, true, true≢false}
use Rattle.std.specs.FinMap as finite
use Rattle.std.specs.List.{list_any}
use Rattle.std.specs.Str.{bytes_eq}
use Rattle.idl_project.specs.UpToDate.{findings_of}
use Rattle.idl_server.proofs.CoveredLemmas.{gathered-all, gathers-none, gathers-one, gathers-passed, unrooted}
use Rattle.idl_server.proofs.workspace.Workspace.waiting.Goals as goal

pub documents-init : goal.documents-init
documents-init c =
    gathers-none c.args.self.now _ _ (c.into_iter-name-iterator.ensures.into_iter_gives ∙ c.iter-name-items.ensures.rest) c.new-names.ensures.empty

-- one that doesn't wait
pub documents-preserved-then-not-is_waiting : goal.documents-preserved-then-not-is_waiting
documents-preserved-then-not-is_waiting c =
    let project = c.args.self.now.session.project in
    gathers-passed c.args.self.now c.documents.name-iterator c.in-Some.name.now c.in-Some._document.now c.next.new.self c.documents.names.keys c.in-Some.ensures.steps
    (λ waits.
    true≢false
    (sym
    (c.is_waiting.ensures waits.welcome ((λ i. is_some ((c.file-file.ensures ∙ ap (finite.get project.inputs.files) c.as_bytes-bytes.ensures.bytes) i)) ∙ waits.there)
    (c.findings-findings.ensures ∙ ap (findings_of project) c.as_bytes-bytes.ensures.bytes ∙ unrooted project c.in-Some.name.now waits.rootless))
    ∙ c.if-not-is_waiting.true))
    c.documents.invariant

-- one that does
pub documents-preserved : goal.documents-preserved
documents-preserved c =
    gathers-one c.args.self.now c.documents.name-iterator c.in-Some.name.now c.in-Some._document.now c.next.new.self c.documents.names.keys c.insert.new.self.keys c.in-Some.ensures.steps
    (λ q.
    subst (λ (n : List ℕ). list_any (bytes_eq q) c.insert.new.self.keys ≡ cond (bytes_eq n q) true (list_any (bytes_eq q) c.documents.names.keys)) c.copied.ensures
    (c.in_ok-insert.ensures.updates.0 q)) c.documents.invariant

pub returns-clause-all : goal.returns-clause-all
returns-clause-all c = gathered-all c.args.self.now c.documents.name-iterator c.documents.names.keys c.in-None.ensures.steps.0 c.documents.invariant

pub returns-clause-opened : goal.returns-clause-opened
returns-clause-opened c = c.documents.invariant.opened
