use Rattle.std.proofs.Common.{◌≡◌, ◌++◌, ◌∙◌, List, ℕ, subst}
use Rattle.std.proofs.lemmas.Result.{on_ok_weaker, on_err_weaker}
use Rattle.std.specs.Fmt.{decimal}
use Rattle.idl_source.specs.devices.Device.{WritesPart}
use Rattle.idl_loader.specs.Gathering.{Sends}
use Rattle.idl_loader.proofs.ReplyLemmas.{sends-more, sends-part}
use Rattle.idl_loader.proofs.reply.Reply.push_number.Goals as goal

pub returns-clause-sent : goal.returns-clause-sent
returns-clause-sent g c =
    let w = g.K.Sink.written c.args.sink.now in
    let v = g.K.Sink.written c.push.new.sink in
    let u = g.K.Sink.written c.push-2.new.sink in
    let held = c.push.new.self in
    let later = c.push-2.new.self in
    let digits : c.as_bytes.result.now ≡ decimal c.args.n = c.as_bytes.ensures.value ∙ c.format.ensures.text in
    on_ok_weaker c.push-2.result
    (λ sent. sends-more w v u c.args.self.now c.args.word.now (decimal c.args.n) held later c.in_ok-push.ensures.sent
    (subst (λ (ds : List ℕ). Sends v (held ++ ds) u later) digits sent))
    c.push-2.ensures.sent

pub returns-clause-part : goal.returns-clause-part
returns-clause-part g c =
    let w = g.K.Sink.written c.args.sink.now in
    let v = g.K.Sink.written c.push.new.sink in
    let u = g.K.Sink.written c.push-2.new.sink in
    let held = c.push.new.self in
    let digits : c.as_bytes.result.now ≡ decimal c.args.n = c.as_bytes.ensures.value ∙ c.format.ensures.text in
    on_err_weaker c.push-2.result
    (λ part. sends-part w v u c.args.self.now c.args.word.now (decimal c.args.n) held c.in_ok-push.ensures.sent
    (subst (λ (ds : List ℕ). WritesPart v (held ++ ds) u) digits part))
    c.push-2.ensures.part
