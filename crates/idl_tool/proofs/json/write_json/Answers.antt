use Rattle.std.proofs.lemmas.Result.{IfOk-weaker}
use Rattle.idl_driver.proofs.ToldLemmas.{writes-none}
use Rattle.idl_loader.proofs.ReplyLemmas.{on_err}
use Rattle.idl_tool.proofs.json.write_json.Goals as goal

pub write_lines-status-requires-clause-compiled : goal.write_lines-status-requires-clause-compiled
write_lines-status-requires-clause-compiled g c = c.in_ok-all.ensures.compiled.compiled

pub returns-clause-written : goal.returns-clause-written
returns-clause-written g c =
    IfOk-weaker c.write_lines-status.result _ _
    (λ status are. record { all = c.in_ok-all.all; files = c.in_ok-all.ensures.compiled; written = are }) c.write_lines-status.ensures.written

pub returns-in_err-all-clause-until : goal.returns-in_err-all-clause-until
returns-in_err-all-clause-until g c = on_err c.from_residual.result (writes-none (g.E.Sink.written c.args.devices.now.errors))
