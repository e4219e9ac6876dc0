use Rattle.std.proofs.Common.{◌∙◌, None, refl}
use Rattle.serde_json.specs.View.{view}
use Rattle.idl_editor.specs.messages.Said.{said_by}
use Rattle.idl_server.proofs.PublishedLemmas.{then-published}
use Rattle.idl_server.proofs.NoticeLemmas.{taken-before}
use Rattle.idl_server.proofs.ServerLemmas.{settled-kept}
use Rattle.std.proofs.lemmas.Result.{on_ok_weaker}
use Rattle.idl_server.proofs.ServingLemmas.{led-by}
use Rattle.idl_server.proofs.WorkspaceLemmas.{on_ok}
use Rattle.idl_server.proofs.server.Server.take_request.Goals as goal

pub returns-clause-settled : goal.returns-clause-settled
returns-clause-settled c = λ told is.
    let mid = c.outcome.new.self in
    let new = record mid { workspace = record mid.workspace { refused = c.show_refused.new.refused } } in
    on_ok c.show_refused.result
    (settled-kept told mid new (λ waiting. waiting) (record { encoding = refl; folders = refl; session = refl; documents = refl; tried = refl; unread = refl }) (c.outcome.ensures.settled told is))

pub returns-clause-taken : goal.returns-clause-taken
returns-clause-taken c =
    let mid = c.outcome.new.self in
    let new = record mid { workspace = record mid.workspace { refused = c.show_refused.new.refused } } in
    on_ok c.show_refused.result
    (taken-before None c.args.self.now mid new refl refl (record { encoding = refl; folders = refl; session = refl; documents = refl; tried = refl; unread = refl }) c.outcome.ensures.taken)

pub returns-clause-published : goal.returns-clause-published
returns-clause-published c = λ w.
    then-published c.show_refused.result w (said_by c.args.out.now) (said_by c.say_outcome.new.out) (said_by c.show_refused.new.out)
    (c.in_ok-say_outcome.ensures.published w) (c.show_refused.ensures.published w)

pub returns-clause-answers : goal.returns-clause-answers
returns-clause-answers c = on_ok_weaker c.show_refused.result (λ same. same ∙ c.in_ok-say_outcome.ensures.answers) c.show_refused.ensures.answers

pub returns-clause-led : goal.returns-clause-led
returns-clause-led c =
    let w = c.args.self.now.workspace in
    on_ok_weaker c.show_refused.result
    (led-by c.outcome.result w c.args.self.now.phase c.outcome.new.self.phase c.args.method (view c.args.id.now) (said_by c.say_outcome.new.out) (said_by c.show_refused.new.out) c.outcome.ensures.led c.outcome.ensures.kept
    c.in_ok-say_outcome.ensures.memory) (c.show_refused.ensures.published w)
