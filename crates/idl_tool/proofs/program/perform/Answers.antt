use Rattle.idl_loader.proofs.ReplyLemmas.{on_err}
use Rattle.idl_driver.proofs.ToldLemmas.{writes-none}
use Rattle.idl_tool.proofs.program.perform.Goals as goal

pub returns-in_err-request-clause-until : goal.returns-in_err-request-clause-until
returns-in_err-request-clause-until g c = on_err c.from_residual.result (writes-none (g.E.Sink.written c.args.devices.now.errors))
