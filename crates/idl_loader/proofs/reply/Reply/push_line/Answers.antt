use Rattle.std.proofs.Common.{◌∷◌, []}
use Rattle.std.proofs.lemmas.Result.{on_ok_weaker, on_err_weaker}
use Rattle.idl_loader.proofs.ReplyLemmas.{sends-more, sends-part}
use Rattle.idl_loader.proofs.reply.Reply.push_line.Goals as goal

pub returns-clause-sent : goal.returns-clause-sent
returns-clause-sent g c =
    on_ok_weaker c.push-2.result
    (λ sent. sends-more (g.K.Sink.written c.args.sink.now) (g.K.Sink.written c.push.new.sink) (g.K.Sink.written c.push-2.new.sink) c.args.self.now c.args.line.now (10 ∷ []) c.push.new.self c.push-2.new.self
    c.in_ok-push.ensures.sent sent)
    c.push-2.ensures.sent

pub returns-clause-part : goal.returns-clause-part
returns-clause-part g c =
    on_err_weaker c.push-2.result
    (λ part. sends-part (g.K.Sink.written c.args.sink.now) (g.K.Sink.written c.push.new.sink) (g.K.Sink.written c.push-2.new.sink) c.args.self.now c.args.line.now (10 ∷ []) c.push.new.self
    c.in_ok-push.ensures.sent part)
    c.push-2.ensures.part
