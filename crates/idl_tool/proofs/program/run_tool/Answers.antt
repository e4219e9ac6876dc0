use Rattle.std.proofs.Common.{inl, inr}
use Rattle.std.proofs.lemmas.Result.{on_err_weaker, on_ok_weaker}
use Rattle.idl_driver.proofs.ToldLemmas.{either-way, grown}
use Rattle.idl_tool.proofs.program.run_tool.Goals as goal

pub returns-in-Ok-clause-failed : goal.returns-in-Ok-clause-failed
returns-in-Ok-clause-failed g c = λ _. inl c.in-Ok.ensures.done

pub returns-in-Err-clause-failed : goal.returns-in-Err-clause-failed
returns-in-Err-clause-failed g c = λ _.
    let shown = g.E.Sink.written c.perform.new.devices.errors in
    inr (either-way c.tell.result
    (on_ok_weaker c.tell.result (λ told. (c.in-Err.failure, shown, c.in-Err.ensures.until, told)) c.tell.ensures.told)
    (on_err_weaker c.tell.result (grown _ _ _ c.perform.ensures.least) c.tell.ensures.err))
