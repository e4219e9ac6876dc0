use Rattle.std.proofs.Common.{◌∙◌, arith}
use Rattle.std.proofs.lemmas.Grind.{common_steps}
use Rattle.idl_loader.proofs.ReplyLemmas.{on_err}
use Rattle.idl_driver.specs.Written.{WritesSome}
use Rattle.idl_driver.proofs.ToldLemmas.{writes-more, writes-part}
use Rattle.idl_program.proofs.program.show_all.Goals as goal

pub returns-in_err-write_lines-clause-until : goal.returns-in_err-write_lines-clause-until
returns-in_err-write_lines-clause-until g c =
    let w = g.E.Sink.written in
    on_err c.from_residual.result
    (writes-more (w c.args.devices.now.errors) (w c.roots.devices.errors) (w c.write_lines.new.sink) c.roots.invariant.until (writes-part _ _ _ c.in_err-write_lines.ensures.part))

pub returns-in_err-show_output-clause-until : goal.returns-in_err-show_output-clause-until
returns-in_err-show_output-clause-until g c =
    let w = g.E.Sink.written in
    let more : WritesSome (w c.roots.devices.errors) (w c.write_lines.new.sink) = (_, c.in_ok-write_lines.ensures.written) in
    on_err c.from_residual-in_err-show_output.result
    (writes-more (w c.args.devices.now.errors) (w c.roots.devices.errors) (w c.write_lines.new.sink) c.roots.invariant.until more)

pub roots-preserved : goal.roots-preserved
roots-preserved g c =
    let w = g.E.Sink.written in
    let more : WritesSome (w c.roots.devices.errors) (w c.write_lines.new.sink) = (_, c.in_ok-write_lines.ensures.written) in
    record {
      errors = grind (arith, common_steps);
      output = grind (arith, common_steps);
      faulty = grind (arith, common_steps);
      source_count = c.roots.invariant.source_count;
      error_count = c.in_ok-write_lines.ensures.ok ∙ c.roots.invariant.error_count;
      output_count = c.in_ok-show_output.ensures.ok ∙ c.roots.invariant.output_count;
      until = writes-more (w c.args.devices.now.errors) (w c.roots.devices.errors) (w c.write_lines.new.sink) c.roots.invariant.until more;
    }
