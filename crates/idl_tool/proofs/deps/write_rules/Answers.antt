use Rattle.std.proofs.Common.{◌∙◌, ℕ, All, List, ap, flat_map, if◌then◌else◌, map, subst, sym}
use Rattle.idl_source.specs.devices.Device.{append}
use Rattle.idl_driver.specs.idl_sources.Compile.{compiled_root}
use Rattle.idl_driver.specs.Rows.{are_faulty}
use Rattle.idl_loader.specs.declared.status.Status.{Status}
use Rattle.idl_loader.specs.declared.status.Status.TheVariants.{Faulty, Sound}
use Rattle.idl_loader.proofs.ReplyLemmas.{on_err}
use Rattle.idl_driver.proofs.ToldLemmas.{writes-more, writes-none, writes-part}
use Rattle.idl_tool.specs.Checked.{IsReportText}
use Rattle.idl_tool.specs.Messages.{ended_by}
use Rattle.idl_tool.specs.make_rules.Make.{IsMakeRule, rules_text}
use Rattle.idl_tool.specs.Deps.{rules_in}
use Rattle.idl_tool.proofs.DepsLemmas.{ending-of}
use Rattle.idl_tool.proofs.deps.write_rules.Goals as goal

pub report_text-requires : goal.report_text-requires
report_text-requires g c = c.deref-3.ensures.value ∙ c.requires.compiled ∙ ap (map (compiled_root c.args.all.now.sound.sources)) (sym c.deref-2.ensures.value)

pub returns-clause-ruled : goal.returns-clause-ruled
returns-clause-ruled g c =
    let all = c.args.all.now in
    let inputs = all.sound.sources in
    let roots = all.sound.roots.items in
    let compiled = all.sound.compiled.items in
    let reports = c.in_ok-reports.reports.items in
    let told = c.in_ok-write_all.ensures.written ∙ ap (append (g.E.Sink.written c.args.devices.now.errors)) c.deref-5.ensures.value in
    record {
      trouble = c.in_ok-trouble.trouble.items;
      troubles = c.in_ok-trouble.ensures;
      reports = reports;
      reported = subst (λ (rs : List (List ℕ)). IsReportText inputs rs reports) c.deref-2.ensures.value c.in_ok-reports.ensures;
      errors = c.in_ok-write_all-2.ensures.written
          ∙ ap (append (g.E.Sink.written c.write_all.new.sink)) c.deref-6.ensures.value
          ∙ ap (λ before. append before reports) told;
      output = c.in_ok-write_all-3.ensures.written
          ∙ ap (append (g.O.Sink.written c.args.devices.now.output)) (c.deref-7.ensures.value ∙ c.in_ok-rules.ensures.rules ∙ ap (λ (rs : List (List ℕ)). rules_text (flat_map (rules_in c.args.deps.now inputs) rs)) c.deref.ensures.value);
      readable = subst (λ (rs : List (List ℕ)). All IsMakeRule (flat_map (rules_in c.args.deps.now inputs) rs)) c.deref.ensures.value c.in_ok-rules.ensures.readable;
      ending = c.ended_by-status.ensures ∙ ap (λ (s : Status). ended_by all s)
          (c.status_of-status.ensures ∙ ap (λ b. if b then Faulty else Sound) (ap are_faulty c.deref-4.ensures.value ∙ ending-of inputs roots compiled c.requires.compiled));
    }

pub returns-in_err-trouble-clause-until : goal.returns-in_err-trouble-clause-until
returns-in_err-trouble-clause-until g c = on_err c.from_residual.result (writes-none (g.E.Sink.written c.args.devices.now.errors))

pub returns-in_err-rules-clause-until : goal.returns-in_err-rules-clause-until
returns-in_err-rules-clause-until g c = on_err c.from_residual-in_err-rules.result (writes-none (g.E.Sink.written c.args.devices.now.errors))

pub returns-in_err-reports-clause-until : goal.returns-in_err-reports-clause-until
returns-in_err-reports-clause-until g c = on_err c.from_residual-in_err-reports.result (writes-none (g.E.Sink.written c.args.devices.now.errors))

pub returns-in_err-write_all-clause-until : goal.returns-in_err-write_all-clause-until
returns-in_err-write_all-clause-until g c = on_err c.from_residual-in_err-write_all.result (writes-part _ _ _ c.in_err-write_all.ensures.part)

pub returns-in_err-write_all-2-clause-until : goal.returns-in_err-write_all-2-clause-until
returns-in_err-write_all-2-clause-until g c =
    on_err c.from_residual-in_err-write_all-2.result (writes-more _ _ _ (_, c.in_ok-write_all.ensures.written) (writes-part _ _ _ c.in_err-write_all-2.ensures.part))

pub returns-in_err-write_all-3-clause-until : goal.returns-in_err-write_all-3-clause-until
returns-in_err-write_all-3-clause-until g c =
    on_err c.from_residual-in_err-write_all-3.result (writes-more _ _ _ (_, c.in_ok-write_all.ensures.written) (_, c.in_ok-write_all-2.ensures.written))
