use Rattle.std.proofs.Common.{◌≡◌, ◌≤◌, ◌<◌, true}
use Rattle.idl_session.specs.Streams.{stream_of, fuel}
use Rattle.idl_session.specs.Reading.{IsReading}
use Rattle.idl_session.proofs.line_buffer.read_line.Given as goal

abbrev pub invariant-parts : goal.invariant-parts
invariant-parts g l = record {
  reading : IsReading g.row.N (stream_of (g.S.Source.remaining l.fn.source) l.fn.feed) (stream_of (g.S.Source.remaining l.source) l.feed) l.line l.any;
  nearer : fuel (g.S.Source.reads_left l.source) l.feed ≤ fuel (g.S.Source.reads_left l.fn.source) l.fn.feed;
  moved : l.any ≡ true → fuel (g.S.Source.reads_left l.source) l.feed < fuel (g.S.Source.reads_left l.fn.source) l.fn.feed;
  failures : g.S.Source.failures l.source ≡ g.S.Source.failures l.fn.source;
}

abbrev pub decreases-parts : goal.decreases-parts
decreases-parts g l = fuel (g.S.Source.reads_left l.source) l.feed
