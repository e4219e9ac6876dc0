use Rattle.std.proofs.Common.{◌≡◌, ◌++◌, take, codes, length}
use Rattle.std.specs.List.{flat_map}
use Rattle.idl_loader.specs.Lines.{number_line, whole_line}
use Rattle.idl_loader.specs.Gathering.{Sends}
use Rattle.idl_session.specs.replies.Rows.{rows_of}
use Rattle.idl_session.proofs.reply.write_rows.Given as goal

abbrev pub invariant-rows : goal.invariant-rows
invariant-rows g l = record {
  sent : Sends (g.K.Sink.written l.fn.sink) (number_line (codes "rows ") (length (rows_of l.rows)) ++ flat_map whole_line (take l.i (rows_of l.rows))) (g.K.Sink.written l.sink) l.reply;
  failures : g.K.Sink.failures l.sink ≡ g.K.Sink.failures l.fn.sink;
}
