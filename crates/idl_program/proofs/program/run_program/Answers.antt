use Rattle.std.proofs.lemmas.Result.{on_err_weaker, on_ok_weaker}
use Rattle.idl_driver.proofs.ToldLemmas.{either-way, grown}
use Rattle.idl_program.proofs.ServedLemmas.{not-failed}
use Rattle.idl_program.proofs.program.run_program.Goals as goal

pub returns-in-Ok-clause-failed : goal.returns-in-Ok-clause-failed
returns-in-Ok-clause-failed g c = λ is. absurd (not-failed _ _ _ _ c.in-Ok.status c.in-Ok.ensures.done.0 c.in-Ok.ensures.done.2 is)

pub returns-in-Err-clause-failed : goal.returns-in-Err-clause-failed
returns-in-Err-clause-failed g c = λ _.
    let shown = g.E.Sink.written c.perform.new.devices.errors in
    either-way c.tell.result
    (on_ok_weaker c.tell.result (λ told. (c.in-Err.failure, shown, c.in-Err.ensures.until, told)) c.tell.ensures.told)
    (on_err_weaker c.tell.result (grown _ _ _ c.perform.ensures.least) c.tell.ensures.err)
