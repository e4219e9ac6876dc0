use Rattle.std.proofs.Common.{◌≡◌, ◌∙◌, ◌++◌, [], ℕ, List, Option, ap, map, refl, subst}
use Rattle.std.proofs.lemmas.List.{take_all}
use Rattle.serde_json.specs.View.{view}
use Rattle.serde_json.specs.declared.value.Value.{Value}
use Rattle.idl_source.specs.devices.Device.{append}
use Rattle.idl_source.proofs.DeviceLemmas.{append-append}
use Rattle.idl_editor.specs.frames.Written.{message_of}
use Rattle.idl_server.specs.Serving.{AreWritten}
use Rattle.idl_server.proofs.ServingLemmas.{append-none, written-next}
use Rattle.idl_server.proofs.service.write_messages.Goals as goal

pub messages-init : goal.messages-init
messages-init g c = record { well = refl; written = ([], refl, append-none (g.O.Sink.written c.args.output.now)) }

pub messages-preserved : goal.messages-preserved
messages-preserved g c =
    let inv = c.messages.invariant in
    let text = inv.written.0 in
    let body = c.in_ok-body.body.items in
    let message : c.deref-in-messages.result.now ≡ message_of body = c.deref-in-messages.ensures.value ∙ c.in_ok-message.ensures ∙ ap message_of c.deref.ensures.value in
    record {
      well = c.in_ok-write_all.ensures.ok ∙ inv.well;
      written = (
        text ++ message_of body,
        written-next c.args.messages.now c.messages.value-index c.value-item.result text body c.messages-test.true c.value-item.is inv.written.1
            (c.in_ok-body.ensures.utf8, c.in_ok-body.ensures.order, c.in_ok-body.ensures.reads_back),
        c.in_ok-write_all.ensures.written ∙ ap (append (g.O.Sink.written c.messages.output)) message ∙ ap (λ (before : Option (List ℕ)). append before (message_of body)) inv.written.2
            ∙ append-append (g.O.Sink.written c.args.output.now) text (message_of body),
      );
    }

pub returns : goal.returns
returns g c = record {
  ok = c.messages.invariant.well;
  written =
      subst (λ (values : List Value). (text : List ℕ) × AreWritten (map view values) text × (g.O.Sink.written c.messages.output ≡ append (g.O.Sink.written c.args.output.now) text))
      (take_all c.messages.value-index c.args.messages.now c.messages-test.false) c.messages.invariant.written;
}
