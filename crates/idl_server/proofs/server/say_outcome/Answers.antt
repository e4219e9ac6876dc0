use Rattle.serde_json.specs.View.{view}
use Rattle.std.proofs.lemmas.Result.{on_ok_weaker}
use Rattle.idl_editor.specs.messages.Said.{said_by}
use Rattle.idl_editor.specs.declared.messages.answer.ErrorCode.TheVariants.{Internal}
use Rattle.idl_server.proofs.PublishedLemmas.{answer-published, error-published, said-published}
use Rattle.idl_server.proofs.ServingLemmas.{answered-answer, answered-error, said-last}
use Rattle.idl_server.proofs.server.say_outcome.Goals as goal

pub returns-in-Ok-Done-clause-published : goal.returns-in-Ok-Done-clause-published
returns-in-Ok-Done-clause-published c = λ w.
    said-published c.answer.result w (said_by c.args.out.now) (said_by c.answer.new.self) _ (answer-published w (view c.args.id.now) _) c.answer.ensures

pub returns-in-Ok-Done-clause-answers : goal.returns-in-Ok-Done-clause-answers
returns-in-Ok-Done-clause-answers c =
    on_ok_weaker c.answer.result (answered-answer (said_by c.args.out.now) (said_by c.answer.new.self) (view c.args.id.now) _) c.answer.ensures

pub returns-in-Ok-Refused-clause-published : goal.returns-in-Ok-Refused-clause-published
returns-in-Ok-Refused-clause-published c = λ w.
    said-published c.refuse.result w (said_by c.args.out.now) (said_by c.refuse.new.self) _ (error-published w (view c.args.id.now) _) c.refuse.ensures

pub returns-in-Ok-Refused-clause-answers : goal.returns-in-Ok-Refused-clause-answers
returns-in-Ok-Refused-clause-answers c =
    on_ok_weaker c.refuse.result (answered-error (said_by c.args.out.now) (said_by c.refuse.new.self) (view c.args.id.now) _) c.refuse.ensures

pub returns-in-Err-clause-published : goal.returns-in-Err-clause-published
returns-in-Err-clause-published c = λ w.
    said-published c.refuse-in-Err.result w (said_by c.args.out.now) (said_by c.refuse-in-Err.new.self) _ (error-published w (view c.args.id.now) Internal) c.refuse-in-Err.ensures

pub returns-in-Err-clause-answers : goal.returns-in-Err-clause-answers
returns-in-Err-clause-answers c =
    on_ok_weaker c.refuse-in-Err.result (answered-error (said_by c.args.out.now) (said_by c.refuse-in-Err.new.self) (view c.args.id.now) Internal) c.refuse-in-Err.ensures

pub returns-in-Err-clause-memory : goal.returns-in-Err-clause-memory
returns-in-Err-clause-memory c = λ err.
    on_ok_weaker c.refuse-in-Err.result (said-last (said_by c.args.out.now) (said_by c.refuse-in-Err.new.self) _) c.refuse-in-Err.ensures
