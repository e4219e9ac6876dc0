use Rattle.std.proofs.Common.{◌≡◌, ◌||◌, drop}
use Rattle.idl_source.specs.devices.Device.{append}
use Rattle.idl_driver.specs.Rows.{are_faulty, lines_with}
use Rattle.idl_driver.specs.Written.{WritesSome}
use Rattle.idl_program.specs.Rows.{output_of}
use Rattle.idl_program.proofs.program.show_all.Given as goal

abbrev pub invariant-roots : goal.invariant-roots
invariant-roots g l = record {
  errors : append (g.E.Sink.written l.devices.errors) (lines_with (λ root. root.rows.diagnostics) (drop l.root-index l.compiled))
      ≡ append (g.E.Sink.written l.fn.devices.errors) (lines_with (λ root. root.rows.diagnostics) l.compiled);
  output : append (g.O.Sink.written l.devices.output) (lines_with (output_of l.options) (drop l.root-index l.compiled))
      ≡ append (g.O.Sink.written l.fn.devices.output) (lines_with (output_of l.options) l.compiled);
  faulty : (l.is_faulty || are_faulty (drop l.root-index l.compiled)) ≡ are_faulty l.compiled;
  source_count : g.S.Source.failures l.devices.source ≡ g.S.Source.failures l.fn.devices.source;
  error_count : g.E.Sink.failures l.devices.errors ≡ g.E.Sink.failures l.fn.devices.errors;
  output_count : g.O.Sink.failures l.devices.output ≡ g.O.Sink.failures l.fn.devices.output;
  until : WritesSome (g.E.Sink.written l.fn.devices.errors) (g.E.Sink.written l.devices.errors);
}
