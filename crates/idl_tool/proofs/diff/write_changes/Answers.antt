use Rattle.std.proofs.Common.{◌∙◌, ap}
use Rattle.idl_source.specs.devices.Device.{append}
use Rattle.idl_tool.proofs.diff.write_changes.Goals as goal

pub returns-clause-written : goal.returns-clause-written
returns-clause-written g c =
    c.in_ok-write_all.ensures.written ∙ ap (append (g.K.Sink.written c.args.output.now)) (c.deref.ensures.value ∙ c.in_ok-text.ensures.lines)

pub returns-clause-status : goal.returns-clause-status
returns-clause-status g c = c.in_ok-text.ensures.status
