use Rattle.std.proofs.Common.{◌≡◌, ◌++◌, ◌∙◌, List, ℕ, ap, subst, codes}
use Rattle.std.proofs.lemmas.Result.{on_err_weaker}
use Rattle.idl_loader.specs.Gathering.{Sends}
use Rattle.idl_loader.specs.Lines.{number_line}
use Rattle.idl_session.specs.replies.Replies.{refused_reply}
use Rattle.idl_loader.proofs.ReplyLemmas.{sends-end-part}
use Rattle.idl_session.proofs.reply.write_refused.Goals as goal

pub returns-clause-part : goal.returns-clause-part
returns-clause-part g c =
    let w = g.K.Sink.written c.args.sink.now in
    let v = g.K.Sink.written c.push_counted.new.sink in
    let held = c.push_counted.new.self in
    let all : c.new-reply.result ++ number_line (codes "refused ") c.from.result ≡ refused_reply c.args.refusal =
    ap (λ (r : List ℕ). r ++ number_line (codes "refused ") c.from.result) c.new-reply.ensures ∙ ap (λ (n : ℕ). number_line (codes "refused ") n) (c.from.ensures ∙ c.number.ensures) in
    on_err_weaker c.finish.result
    (λ part. sends-end-part w v (g.K.Sink.written c.finish.new.sink) (refused_reply c.args.refusal) held
    (subst (λ (bytes : List ℕ). Sends w bytes v held) all c.in_ok-push_counted.ensures.sent) part)
    c.finish.ensures.part
