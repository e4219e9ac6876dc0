use Rattle.std.proofs.Common.{◌≡◌, ◌∙◌, [], ap, rules}
use Rattle.std.proofs.lemmas.Result.{on_ok_weaker, on_err_weaker}
use Rattle.idl_source.specs.devices.Device.{append}
use Rattle.idl_loader.proofs.ReplyLemmas.{sends-all, part-after}
use Rattle.idl_loader.proofs.reply.Reply.push.Goals as goal

pub returns-clause-sent : goal.returns-clause-sent
returns-clause-sent g c =
    let w = g.K.Sink.written c.args.sink.now in
    let v = g.K.Sink.written c.write_all.new.sink in
    let same : c.try_extend_from_slice.new.self.items ≡ c.args.self.now = search rules in
    let front : v ≡ append w c.args.self.now = c.in_ok-write_all.ensures.written ∙ ap (append w) (c.deref.ensures.0 ∙ same) in
    let kept : c.try_extend_from_slice-2.new.self.items ≡ [] = search rules in
    on_ok_weaker c.write_all-2.result
    (λ back. sends-all w v (g.K.Sink.written c.write_all-2.new.sink) c.args.self.now c.args.bytes.now c.try_extend_from_slice-2.new.self.items front back kept)
    c.write_all-2.ensures.written

pub returns-clause-part : goal.returns-clause-part
returns-clause-part g c =
    let w = g.K.Sink.written c.args.sink.now in
    let v = g.K.Sink.written c.write_all.new.sink in
    let same : c.try_extend_from_slice.new.self.items ≡ c.args.self.now = search rules in
    let front : v ≡ append w c.args.self.now = c.in_ok-write_all.ensures.written ∙ ap (append w) (c.deref.ensures.0 ∙ same) in
    on_err_weaker c.write_all-2.result
    (λ part. part-after w v (g.K.Sink.written c.write_all-2.new.sink) c.args.self.now c.args.bytes.now front part)
    c.write_all-2.ensures.part
