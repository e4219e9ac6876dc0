use Rattle.std.proofs.lemmas.Result.{IfOk-weaker}
use Rattle.idl_server.proofs.service.LanguageServerService.serve.Goals as goal

pub answer_messages-requires-clause-settled : goal.answer_messages-requires-clause-settled
answer_messages-requires-clause-settled g c = c.new-server.ensures.settled (g.L.PathLoader.told_of c.args.loader.now)

pub returns-clause-served : goal.returns-clause-served
returns-clause-served g c =
    IfOk-weaker c.answer_messages.result _ _ (λ status is. (c.new-server.result, c.new-server.ensures.first, is)) c.answer_messages.ensures.served
