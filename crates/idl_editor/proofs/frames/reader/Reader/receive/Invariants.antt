use Rattle.std.proofs.Common.{◌≡◌, ◌≤◌}
use Rattle.idl_source.specs.devices.Device.{prepend}
use Rattle.idl_editor.specs.frames.Reading.{fuel}
use Rattle.idl_editor.proofs.frames.reader.Reader.receive.Given as goal

abbrev pub invariant-heads : goal.invariant-heads
invariant-heads g l = record {
  same : prepend l.self (g.S.Source.remaining l.source) ≡ prepend l.fn.self (g.S.Source.remaining l.fn.source);
  nearer : fuel (g.S.Source.reads_left l.source) l.self ≤ fuel (g.S.Source.reads_left l.fn.source) l.fn.self;
  failures : g.S.Source.failures l.source ≡ g.S.Source.failures l.fn.source;
}

abbrev pub decreases-heads : goal.decreases-heads
decreases-heads g l = fuel (g.S.Source.reads_left l.source) l.self
