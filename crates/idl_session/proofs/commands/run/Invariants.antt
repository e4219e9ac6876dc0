use Rattle.std.proofs.Common.{◌≡◌}
use Rattle.idl_session.specs.Serving.{Served}
use Rattle.idl_session.specs.Streams.{fuel}
use Rattle.idl_session.proofs.commands.run.Given as goal

abbrev pub invariant-commands : goal.invariant-commands
invariant-commands g l = record {
  served : Served
      (record {
        left = g.S.Source.remaining l.initial.source;
        fed = l.initial.input.feed;
        written = g.K.Sink.written l.initial.sink;
        state = l.initial.session;
      })
      (record { left = g.S.Source.remaining l.source; fed = l.input.feed; written = g.K.Sink.written l.sink; state = l.session });
  reads : g.S.Source.failures l.source ≡ g.S.Source.failures l.initial.source;
  writes : g.K.Sink.failures l.sink ≡ g.K.Sink.failures l.initial.sink;
}

abbrev pub decreases-commands : goal.decreases-commands
decreases-commands g l = fuel (g.S.Source.reads_left l.source) l.input.feed
