use Rattle.std.proofs.Common.{sym, true≢false}
use Rattle.idl_server.proofs.WorkspaceLemmas.{filed-open}
use Rattle.idl_server.proofs.workspace.Workspace.put_off.Goals as goal

pub returns-clause-filed : goal.returns-clause-filed
returns-clause-filed c = λ told was.
    filed-open told _ c.args.name.now _ (c.set_text.ensures.there c.in-Some.document.now (sym c.in-Some.ensures.value)) (λ now. absurd (true≢false now))
