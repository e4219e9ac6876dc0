use Rattle.std.proofs.Common.{◌≡◌, ◌++◌, [], take}
use Rattle.std.specs.List.{flat_map}
use Rattle.idl_loader.specs.Lines.{whole_line}
use Rattle.idl_loader.specs.Gathering.{Sends}
use Rattle.idl_loader.proofs.reply.write_lines.Given as goal

abbrev pub invariant-rows : goal.invariant-rows
invariant-rows g l = record {
  sent : Sends (g.K.Sink.written l.fn.sink) ([] ++ flat_map whole_line (take l.row-index l.rows)) (g.K.Sink.written l.sink) l.reply;
  failures : g.K.Sink.failures l.sink ≡ g.K.Sink.failures l.fn.sink;
}
