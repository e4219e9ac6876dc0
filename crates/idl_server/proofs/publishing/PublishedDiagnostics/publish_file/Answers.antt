use Rattle.serde_json.specs.View.{view}
use Rattle.idl_editor.specs.messages.Said.{said_by}
use Rattle.idl_server.proofs.PublishedLemmas.{found-published, none-published, one-published}
use Rattle.idl_server.proofs.ServingLemmas.{answered-notice}
use Rattle.idl_server.proofs.publishing.PublishedDiagnostics.publish_file.Goals as goal

pub returns-then-has_told-clause-published : goal.returns-then-has_told-clause-published
returns-then-has_told-clause-published c = none-published c.args.workspace.now (said_by c.args.out.now)

pub returns-clause-published : goal.returns-clause-published
returns-clause-published c =
    let w = c.args.workspace.now in
    one-published w (said_by c.args.out.now) (said_by c.tell.new.self) _ c.in_ok-tell.ensures
    (found-published w c.args.name.now _ _ (view c.in_ok-list.list) (view c.in_ok-params.params) c.in_ok-params.ensures c.in_ok-uri.ensures c.version_for-version.ensures c.in_ok-list.ensures)

pub returns-clause-answers : goal.returns-clause-answers
returns-clause-answers c =
    answered-notice (said_by c.args.out.now) (said_by c.tell.new.self) _ (view c.in_ok-params.params) c.in_ok-tell.ensures
