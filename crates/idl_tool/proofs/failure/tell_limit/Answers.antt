use Rattle.std.proofs.Common.{◌∙◌, ap}
use Rattle.std.proofs.lemmas.Result.{on_ok_weaker}
use Rattle.idl_source.specs.devices.Device.{append}
use Rattle.idl_tool.specs.Messages.{limit_words}
use Rattle.idl_tool.proofs.FailureLemmas.{limit-told}
use Rattle.idl_tool.proofs.failure.tell_limit.Goals as goal

pub returns-clause-told : goal.returns-clause-told
returns-clause-told g c =
    let w = g.K.Sink.written in
    let words = limit_words c.args.limit in
    on_ok_weaker c.write_all-5.result
    (limit-told c.args.name.now words (w c.args.errors.now) (w c.write_all.new.sink) (w c.write_all-2.new.sink) (w c.write_all-3.new.sink) (w c.write_all-4.new.sink) (w c.write_all-5.new.sink)
    c.in_ok-write_all.ensures.written c.in_ok-write_all-2.ensures.written c.in_ok-write_all-3.ensures.written
    (c.in_ok-write_all-4.ensures.written ∙ ap (append (w c.write_all-3.new.sink)) c.limit_words.ensures))
    c.write_all-5.ensures.written
