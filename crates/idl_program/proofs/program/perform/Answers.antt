use Rattle.idl_driver.proofs.ToldLemmas.{until-none}
use Rattle.idl_program.proofs.program.perform.Goals as goal

pub returns-in_err-request-clause-until : goal.returns-in_err-request-clause-until
returns-in_err-request-clause-until g c = until-none c.from_residual.result (g.E.Sink.written c.args.devices.now.errors)
