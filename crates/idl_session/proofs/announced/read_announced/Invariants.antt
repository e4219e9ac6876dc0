use Rattle.std.proofs.Common.{◌≡◌, ◌≤◌}
use Rattle.idl_session.specs.Streams.{stream_of, fuel}
use Rattle.idl_session.specs.replies.Announced.{IsGathering}
use Rattle.idl_session.proofs.announced.read_announced.Given as goal

abbrev pub invariant-loop-i : goal.invariant-loop-i
invariant-loop-i g l = record {
  gathering : IsGathering l.count l.i (stream_of (g.S.Source.remaining l.fn.source) l.fn.feed) (stream_of (g.S.Source.remaining l.source) l.feed) l.announced;
  nearer : fuel (g.S.Source.reads_left l.source) l.feed ≤ fuel (g.S.Source.reads_left l.fn.source) l.fn.feed;
  failures : g.S.Source.failures l.source ≡ g.S.Source.failures l.fn.source;
}
