use Rattle.std.proofs.lemmas.Result.{IfOk-weaker}
use Rattle.idl_driver.proofs.ToldLemmas.{writes-none}
use Rattle.idl_loader.proofs.ReplyLemmas.{on_err}
use Rattle.idl_tool.proofs.deps.write_deps.Goals as goal

pub write_rules-status-requires-clause-compiled : goal.write_rules-status-requires-clause-compiled
write_rules-status-requires-clause-compiled g c = c.in_ok-all.ensures.compiled.compiled

pub returns-clause-served : goal.returns-clause-served
returns-clause-served g c =
    IfOk-weaker c.write_rules-status.result _ _
    (λ status are. record { all = c.in_ok-all.all; files = c.in_ok-all.ensures.compiled; ruled = are }) c.write_rules-status.ensures.ruled

pub returns-in_err-all-clause-until : goal.returns-in_err-all-clause-until
returns-in_err-all-clause-until g c = on_err c.from_residual.result (writes-none (g.E.Sink.written c.args.devices.now.errors))
