use Rattle.std.proofs.Common.{◌≡◌}
use Rattle.idl_source.specs.devices.Device.{prepend}
use Rattle.idl_editor.specs.frames.Reading.{fuel}
use Rattle.idl_server.specs.Server.{IsSettled}
use Rattle.idl_server.specs.Serving.{AreServed}
use Rattle.idl_server.proofs.service.answer_messages.Given as goal

-- all reads and writes went well, and the messages that came were served
abbrev pub invariant-messages : goal.invariant-messages
invariant-messages g l = record {
  reads : g.S.Source.failures l.source ≡ g.S.Source.failures l.fn.source;
  writes : g.O.Sink.failures l.output ≡ g.O.Sink.failures l.fn.output;
  stays : g.L.PathLoader.told_of l.loader ≡ g.L.PathLoader.told_of l.fn.loader;
  settled : IsSettled (g.L.PathLoader.told_of l.loader) l.server;
  served : AreServed (g.L.PathLoader.told_of l.fn.loader) l.fn.server (g.S.Source.remaining l.fn.source)
      (prepend l.reader (g.S.Source.remaining l.source)) (g.O.Sink.written l.fn.output) (g.O.Sink.written l.output) l.server;
}

abbrev pub decreases-messages : goal.decreases-messages
decreases-messages g l = fuel (g.S.Source.reads_left l.source) l.reader
