use Rattle.std.proofs.Common.{List, ap, map, subst}
use Rattle.serde_json.specs.View.{view}
use Rattle.serde_json.specs.declared.value.Value.{Value}
use Rattle.idl_editor.specs.messages.Said.{said_by}
use Rattle.idl_server.specs.Serving.{AreWritten}
use Rattle.idl_server.proofs.ServingLemmas.{steps-said}
use Rattle.idl_server.proofs.service.answer_message.Goals as goal

pub returns-clause-stepped : goal.returns-clause-stepped
returns-clause-stepped g c =
    let old = c.args.server.now in
    let said = said_by c.step_by.new.out in
    let step = c.in_ok-next.ensures in
    let wrote = c.in_ok-write_messages.ensures.written in (
      said,
      wrote.0,
      steps-said (g.L.PathLoader.told_of c.args.loader.now) c.args.message.0.now old c.step_by.new.server (said_by c.new-out.result) said c.in_ok-next.next (ap (map view) c.new-out.ensures) step.taken
          (step.settled c.requires.settled) step.answered,
      subst (λ (values : List Value). AreWritten (map view values) wrote.0) c.messages.ensures wrote.1,
      wrote.2,
    )
