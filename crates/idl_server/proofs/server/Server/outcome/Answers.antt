use Rattle.idl_server.proofs.ServerLemmas.{blank-set, settled-blank}
use Rattle.idl_server.proofs.server.Server.outcome.Goals as goal

pub returns-in_err-abilities-in-Initialize-clause-settled : goal.returns-in_err-abilities-in-Initialize-clause-settled
returns-in_err-abilities-in-Initialize-clause-settled c = λ told is.
    settled-blank told _ (blank-set c.args.self.now.workspace c.begin.new.self c.begin.ensures (is.blank c.in-Waiting.is))

pub returns-in_ok-abilities-in-Initialize-clause-settled : goal.returns-in_ok-abilities-in-Initialize-clause-settled
returns-in_ok-abilities-in-Initialize-clause-settled c = λ told is.
    settled-blank told _ (blank-set c.args.self.now.workspace c.begin.new.self c.begin.ensures (is.blank c.in-Waiting.is))
