use Rattle.std.proofs.Common.{◌≡◌, ◌∙◌, ℕ, List, [], Some, ap, not, refl, subst, sym, true}
use Rattle.idl_source.specs.devices.Device.{prepend}
use Rattle.idl_editor.specs.frames.Reading.{IsNearer, Receives, fuel}
use Rattle.idl_editor.specs.declared.frames.reader.Received.{Received}
use Rattle.idl_loader.specs.Holding.{Holding}
use Rattle.idl_server.specs.Server.{IsSettled}
use Rattle.idl_server.specs.declared.server.StepOutcome.TheVariants.{BreaksOff, Ends, Goes}
use Rattle.idl_server.proofs.ServingLemmas.{breaks-not, ends-not, held-none, none-came, prepend-none, served-end, served-more, served-none, served-out, stepped-as}
use Rattle.idl_server.proofs.service.answer_messages.Goals as goal

pub messages-init : goal.messages-init
messages-init g c =
    let rest = g.S.Source.remaining c.args.source.now in
    record {
      reads = refl;
      writes = refl;
      stays = refl;
      settled = c.requires.settled;
      served = served-none (g.L.PathLoader.told_of c.args.loader.now) c.args.server.now rest (prepend c.new-reader.result rest) (g.O.Sink.written c.args.output.now)
          (prepend-none rest ∙ ap (λ (r : List ℕ). prepend r rest) (sym c.new-reader.ensures)) c.requires.on_time;
    }

pub messages-preserved : goal.messages-preserved
messages-preserved g c =
    let inv = c.messages.invariant in
    let old = c.messages.server in
    let new = c.answer_message.new.server in
    let told = g.L.PathLoader.told_of c.args.loader.now in
    let body = c.in-Body.body.items in
    let left = prepend c.messages.reader (g.S.Source.remaining c.messages.source) in
    let rest = prepend c.received.new.reader (g.S.Source.remaining c.received.new.source) in
    let takes = subst (λ (r : Received). Receives r left rest) c.in-Body.is c.in_ok-body.ensures.received in
    let one = c.in_ok-answer_message.ensures.stepped in
    let steps =
    stepped-as (g.L.PathLoader.told_of c.messages.loader) told c.as_slice.result.now body old new one.0 c.in_ok-answer_message.field-0 Goes inv.stays c.as_slice.ensures.value c.in-Goes.is one.2 in
    let on_time : rest ≡ Some [] → new.late.keys ≡ [] = λ over.
    let empty : c.is_empty.result ≡ true = c.is_empty.ensures.1 (held-none c.received.new.reader (g.S.Source.remaining c.received.new.source) over) in
    c.in_ok-answer_message.ensures.on_time (ap not empty)
    in
    record {
      reads = c.in_ok-body.ensures.ok ∙ inv.reads;
      writes = c.in_ok-answer_message.ensures.ok ∙ inv.writes;
      stays = c.answer_message.ensures.stays ∙ inv.stays;
      settled = subst (λ (t : List ℕ → Holding). IsSettled t new) (sym c.answer_message.ensures.stays) one.2.settled;
      served = served-more told c.args.server.now old new (g.S.Source.remaining c.args.source.now) left rest (g.O.Sink.written c.args.output.now) (g.O.Sink.written c.messages.output)
          (g.O.Sink.written c.answer_message.new.output) body one.0 one.1 inv.served takes steps on_time one.3 one.4;
    }

pub messages-smaller : goal.messages-smaller
messages-smaller g c =
    let before = fuel (g.S.Source.reads_left c.messages.source) c.messages.reader in
    let after = fuel (g.S.Source.reads_left c.received.new.source) c.received.new.reader in
    subst (λ (r : Received). IsNearer r before after) c.in-Body.is c.in_ok-body.ensures.nearer

pub returns-in_default-clause-served : goal.returns-in_default-clause-served
returns-in_default-clause-served g c =
    let left = prepend c.messages.reader (g.S.Source.remaining c.messages.source) in
    let rest = prepend c.received.new.reader (g.S.Source.remaining c.received.new.source) in
    served-out (g.L.PathLoader.told_of c.args.loader.now) c.args.server.now c.messages.server (g.S.Source.remaining c.args.source.now) left (g.O.Sink.written c.args.output.now)
    (g.O.Sink.written c.messages.output) rest c.in_ok-body.field-0 c.messages.invariant.served c.in_ok-body.ensures.received (none-came c.in_ok-body.field-0 c.in_default.not-Body)

pub returns-in-Ends-clause-served : goal.returns-in-Ends-clause-served
returns-in-Ends-clause-served g c =
    let inv = c.messages.invariant in
    let old = c.messages.server in
    let new = c.answer_message.new.server in
    let told = g.L.PathLoader.told_of c.args.loader.now in
    let body = c.in-Body.body.items in
    let left = prepend c.messages.reader (g.S.Source.remaining c.messages.source) in
    let rest = prepend c.received.new.reader (g.S.Source.remaining c.received.new.source) in
    let takes = subst (λ (r : Received). Receives r left rest) c.in-Body.is c.in_ok-body.ensures.received in
    let one = c.in_ok-answer_message.ensures.stepped in
    let steps =
    stepped-as (g.L.PathLoader.told_of c.messages.loader) told c.as_slice.result.now body old new one.0 c.in_ok-answer_message.field-0 Ends inv.stays c.as_slice.ensures.value c.in-Ends.is one.2 in
    served-end told c.args.server.now old new (g.S.Source.remaining c.args.source.now) left rest (g.O.Sink.written c.args.output.now) (g.O.Sink.written c.messages.output)
    (g.O.Sink.written c.answer_message.new.output) body one.0 one.1 Ends inv.served takes steps ends-not one.3 one.4

pub returns-in-BreaksOff-clause-served : goal.returns-in-BreaksOff-clause-served
returns-in-BreaksOff-clause-served g c =
    let inv = c.messages.invariant in
    let old = c.messages.server in
    let new = c.answer_message.new.server in
    let told = g.L.PathLoader.told_of c.args.loader.now in
    let body = c.in-Body.body.items in
    let left = prepend c.messages.reader (g.S.Source.remaining c.messages.source) in
    let rest = prepend c.received.new.reader (g.S.Source.remaining c.received.new.source) in
    let takes = subst (λ (r : Received). Receives r left rest) c.in-Body.is c.in_ok-body.ensures.received in
    let one = c.in_ok-answer_message.ensures.stepped in
    let steps =
    stepped-as (g.L.PathLoader.told_of c.messages.loader) told c.as_slice.result.now body old new one.0 c.in_ok-answer_message.field-0 BreaksOff inv.stays c.as_slice.ensures.value c.in-BreaksOff.is one.2 in
    served-end told c.args.server.now old new (g.S.Source.remaining c.args.source.now) left rest (g.O.Sink.written c.args.output.now) (g.O.Sink.written c.messages.output)
    (g.O.Sink.written c.answer_message.new.output) body one.0 one.1 BreaksOff inv.served takes steps breaks-not one.3 one.4
