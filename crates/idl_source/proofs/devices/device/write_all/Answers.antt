use Rattle.std.proofs.Common.{◌-◌, length, arith, drop, length-drop, length-take}
use Rattle.std.proofs.lemmas.List.{take_rest}
use Rattle.idl_source.proofs.DeviceLemmas.{append-take_more}
use Rattle.idl_source.proofs.devices.device.write_all.Goals as goal

pub loop-done-preserved : goal.loop-done-preserved
loop-done-preserved g c =
    let n = c.in_ok-done.field-0 in
    let bytes = c.args.bytes.now in
    let done = c.loop-done.done in
    record {
      within = omega (arith, c.in_ok-done.ensures.count.1, length-take (length bytes - done) (drop done bytes), length-drop done bytes);
      written = rw (c.in_ok-done.ensures.taken, take_rest bytes done, c.loop-done.invariant.written) (append-take_more (g.K.Sink.written c.args.sink.now) bytes done n);
      failures = cc (c.in_ok-done.ensures.ok);
    }
