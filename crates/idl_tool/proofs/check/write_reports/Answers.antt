use Rattle.std.proofs.Common.{◌∙◌, ℕ, List, ap, if◌then◌else◌, map, subst, sym}
use Rattle.idl_source.specs.devices.Device.{append}
use Rattle.idl_driver.specs.idl_sources.Compile.{compiled_root}
use Rattle.idl_driver.specs.idl_sources.declared.compile.CompiledRoot.{CompiledRoot}
use Rattle.idl_driver.proofs.ToldLemmas.{writes-none, writes-part}
use Rattle.idl_loader.proofs.ReplyLemmas.{on_err}
use Rattle.idl_loader.specs.declared.status.Status.{Status}
use Rattle.idl_loader.specs.declared.status.Status.TheVariants.{Faulty, Sound}
use Rattle.idl_tool.specs.Checked.{AreToldOf, are_faults}
use Rattle.idl_tool.specs.Messages.{ended_by}
use Rattle.idl_tool.proofs.check.write_reports.Goals as goal

pub report_text-requires : goal.report_text-requires
report_text-requires g c = c.deref-2.ensures.value ∙ c.requires.compiled ∙ ap (map (compiled_root c.args.all.now.sound.sources)) (sym c.deref.ensures.value)

pub returns-clause-reported : goal.returns-clause-reported
returns-clause-reported g c =
    let all = c.args.all.now in
    let text = c.in_ok-text.ensures in
    record {
      told = text.0;
      each = subst (λ (rs : List (List ℕ)). AreToldOf all.sound.sources rs text.0) c.deref.ensures.value text.1;
      reports = text.2;
      reported = text.3;
      output = c.in_ok-write_all-2.ensures.written ∙ ap (append (g.O.Sink.written c.args.devices.now.output)) (c.deref-5.ensures.value ∙ text.4);
      trouble = c.in_ok-trouble.trouble.items;
      troubles = c.in_ok-trouble.ensures;
      errors = c.in_ok-write_all.ensures.written ∙ ap (append (g.E.Sink.written c.args.devices.now.errors)) c.deref-4.ensures.value;
      ending = c.ended_by-status.ensures ∙ ap (λ (s : Status). ended_by all s)
          (c.ending_of-status.ensures ∙ ap (λ (rs : List CompiledRoot). if are_faults c.args.counts_warnings rs then Faulty else Sound) (c.deref-3.ensures.value ∙ c.requires.compiled));
    }

pub returns-in_err-trouble-clause-until : goal.returns-in_err-trouble-clause-until
returns-in_err-trouble-clause-until g c = on_err c.from_residual.result (writes-none (g.E.Sink.written c.args.devices.now.errors))

pub returns-in_err-text-clause-until : goal.returns-in_err-text-clause-until
returns-in_err-text-clause-until g c = on_err c.from_residual-in_err-text.result (writes-none (g.E.Sink.written c.args.devices.now.errors))

pub returns-in_err-write_all-clause-until : goal.returns-in_err-write_all-clause-until
returns-in_err-write_all-clause-until g c = on_err c.from_residual-in_err-write_all.result (writes-part _ _ _ c.in_err-write_all.ensures.part)

pub returns-in_err-write_all-2-clause-until : goal.returns-in_err-write_all-2-clause-until
returns-in_err-write_all-2-clause-until g c = on_err c.from_residual-in_err-write_all-2.result (_, c.in_ok-write_all.ensures.written)
